-- What the code computes, in the shape that it has there. Laws tie it to the definitions beside this folder.
pub mod Reading
