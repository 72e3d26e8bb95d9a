-- What the code keeps, in the shape that it has there.
pub mod Says
