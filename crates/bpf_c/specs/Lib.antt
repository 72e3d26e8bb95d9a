-- Definitions, in the order in which they read best.
-- which names a function of C can have
pub mod Names
-- the words of which the names of operations are made
pub mod Words
-- a statement for each instruction that neither jumps nor calls
pub mod Statements
-- where a program is cut into functions, and the statements that jump and call
pub mod Parts
-- the text of a program
pub mod Unit
-- what mirrors code
pub mod code
