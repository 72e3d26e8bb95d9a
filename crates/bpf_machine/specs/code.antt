-- What the code keeps and computes, in the shape that it has there. A law or a contract ties each to the definitions beside this folder.
pub mod PackedStack
pub mod PackedRegisters
pub mod Frames
pub mod Locations
pub mod Standing
pub mod Stored
