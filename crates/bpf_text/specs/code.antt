-- What the code keeps and computes, in the shape that it has there. A law or a contract ties each to the definitions beside this folder.
pub mod Puts
pub mod WordReading
pub mod StatementReading
pub mod LineReading
pub mod Endings
pub mod Seen
pub mod SourceSeen
pub mod Chains
pub mod Slots
