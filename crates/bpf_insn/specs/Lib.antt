-- Definitions, in the order in which they read best.
-- options one after another
pub mod Options
-- the byte order, and all that depends on it
pub mod Order
-- the greatest sizes
pub mod Limits
-- what an instruction is made of: sizes, registers, slots, groups, distances
pub mod Instruction
-- arithmetic and comparisons as formulas on integers
pub mod Arithmetic
-- which registers an instruction reads and writes, and which memory
pub mod Effects
-- the bytes of instructions, and which lists are programs
pub mod Image
-- which bytes are no image, and which lists no program
pub mod Refusal
-- the numbers of refusals, and the slots that they name
pub mod RefusalNumbers
-- what a write leaves with a writer
pub mod Written
-- what is read from a reader
pub mod Reading
-- what mirrors code
pub mod code
-- laws above these definitions
pub mod Laws
