-- Definitions, in the order in which they read best.
-- what notes of a hardened program show
pub mod Evidence
-- what is answered of a program and a bound
pub mod Certified
