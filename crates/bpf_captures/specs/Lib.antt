-- the form of a capture file
pub mod Capture
-- the block of a packet
pub mod Block
-- what is taken of a file
pub mod Taken
-- the numbers of refusals
pub mod Refused
-- the lines of answers, and how often each came
pub mod Lines
-- which packets are answered, and where that ends
pub mod Stops
