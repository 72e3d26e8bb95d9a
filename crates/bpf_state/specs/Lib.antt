-- Definitions, in the order in which they read best.
-- what is known of registers and of the slots of the frame
pub mod State
-- what a state tells of a place
pub mod Held
-- which bytes an access may touch
pub mod Access
-- the conditions of the checker, by number and in words
pub mod Condition
-- why an instruction is refused
pub mod Fault
-- what is at fault there
pub mod Cause
-- the state after each instruction
pub mod Transfer
-- one state lies in another
pub mod Entails
-- the first place of which something holds
pub mod Places
-- the states that a label can have
pub mod Bare
-- what the calls that change a state answer
pub mod Answer
-- counted work
pub mod Work
-- byte masks that cover others
pub mod Covers
-- what mirrors code
pub mod code
