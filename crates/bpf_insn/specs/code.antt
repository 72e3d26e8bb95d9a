-- What the code keeps and computes, in the shape that it has there. A law or a contract ties each to the definitions beside this folder.
pub mod Form
pub mod Decoding
pub mod Classes
pub mod Kept
pub mod Layout
