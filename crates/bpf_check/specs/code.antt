-- What the code keeps and computes, in the shape that it has there. A law or a contract ties each to the definitions beside this folder.
pub mod Search
pub mod Slack
pub mod Least
pub mod Edges
pub mod Sites
pub mod Ways
pub mod Arrivals
pub mod Visits
pub mod Straight
pub mod Counting
pub mod Standing
