-- Definitions, in the order in which they read best.
-- what a run of a checked program promises
pub mod Runs
-- what mirrors code
pub mod code
