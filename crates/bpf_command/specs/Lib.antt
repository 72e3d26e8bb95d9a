-- Definitions, in the order in which they read best.
-- the numbers that words say at most, or where they say none
pub mod Limits
-- the commands and their arguments
pub mod Commands
-- what the entries of the table stand for
pub mod Entries
-- what words ask for
pub mod Explaining
pub mod CommandLine
-- what is said of runs beside notes
pub mod Noted
pub mod Printed
pub mod Followed
pub mod RunNames
pub mod Given
pub mod Replayed
-- what the bytes at a name spell, and what is made of it
pub mod Spelled
-- what comes to stand at the names of a conversion
pub mod Standing
-- what comes of a filter, and what is put at the names of the answers
pub mod Converted
-- which text is written, what is answered, and what is put at OUT
pub mod Emitted
-- what comes of a search, and of hardening
pub mod Inferred
pub mod Texts
pub mod Hardened
-- what is explained
pub mod Names
pub mod Explained
-- what is certified
pub mod Certified
-- what can't be asked for together, and which names may not lead to one file
pub mod Conflicts
pub mod Obstacles
-- what a command found, and what is told beside it
pub mod Found
pub mod Advice
pub mod Remarks
-- what the command answers to its words
pub mod Response
