-- What the code keeps and computes, in the shape that it has there. A law or a contract ties each to the definitions beside this folder.
pub mod Parts
pub mod Frames
pub mod Stops
pub mod Opcodes
pub mod Pairs
pub mod Ordered
