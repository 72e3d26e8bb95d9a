-- Definitions, in the order in which they read best.
-- exact results of operations, and words on bits
pub mod Word
-- what is known of each bit
pub mod Tristate
-- intervals of unsigned numbers
pub mod Interval
-- intervals of numbers read as two's complement
pub mod SignedInterval
-- abstract numbers, their join, entailment and reduction
pub mod Number
-- operations of instructions on them
pub mod Operation
-- what a test tells of its operands
pub mod Refine
-- what all of this promises
pub mod Laws
