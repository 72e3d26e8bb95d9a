-- Definitions, in the order in which they read best.
-- a machine as its contracts see it
pub mod Running
-- what a step and a run answer
pub mod Answers
-- what mirrors code
pub mod code
