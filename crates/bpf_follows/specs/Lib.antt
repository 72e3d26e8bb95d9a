-- Definitions, in the order in which they read best.
-- the text of notes
pub mod NotesText
-- why a text is none
pub mod Refused
-- what the code reads, in the shape that it has there
pub mod code
-- what is noted of the slots of an instruction
pub mod Stretch
-- at which EXIT a run ends
pub mod Exits
-- which of them are traps
pub mod Traps
-- what that says of the old program
pub mod Laws
