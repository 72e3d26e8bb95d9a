-- Definitions, in the order in which they read best.
-- which states of the machine an abstract state describes
pub mod Describes
-- what the abstract steps promise of the machine's
pub mod Laws
-- Definitions, in the order in which they read best.
-- which function and which label stand at a slot
pub mod Labels
-- ranking functions, and how an edge pays
pub mod Budget
-- which state reaches each instruction, and where it goes on
pub mod Flow
-- which condition fails where
pub mod Flaw
-- certified programs, and the refusal of the others
pub mod Certified
-- the work of a check
pub mod Work
-- what is promised of certified programs
pub mod Theorems
