pub mod Taken
pub mod Words
pub mod Escaped
