-- What the code keeps and computes, in the shape that it has there. A law or a contract ties each to the definitions beside this folder.
pub mod Masked
pub mod Parts
pub mod Results
pub mod Entries
pub mod Tags
pub mod Mistakes
