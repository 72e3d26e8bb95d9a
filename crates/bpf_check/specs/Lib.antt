-- Definitions, in the order in which they read best.
-- a checked program as its contracts see it
pub mod CheckedProgram
-- the numbers of refusals, and the slots that they name
pub mod RefusalNumbers
-- what is answered of an image and a certificate's text
pub mod Verdicts
-- where a certificate's labels lie
pub mod LabelIndex
-- what mirrors code
pub mod code
