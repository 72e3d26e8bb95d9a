-- Definitions, in the order in which they read best.
-- values, cells, frames, states
pub mod State
-- numbers and pointers in cells, and where an access lies
pub mod Memory
-- what each instruction does, and when a run ends
pub mod Step
-- why a state is stuck
pub mod Stuck
-- the numbers of these reasons
pub mod ReasonNumbers
-- steps one after another
pub mod Run
-- laws of the machine
pub mod MachineLaws
-- the flat machine: plain numbers, one memory
pub mod Flat
-- how a state lies in the flat memory
pub mod Placement
-- laws of the flat machine
pub mod FlatLaws
-- where jumps and calls lead
pub mod Targets
-- Definitions, in the order in which they read best.
-- blocks, and a state inside of one
pub mod Blocks
-- laws of runs inside of a block
pub mod Laws
