pub mod Gathered
pub mod Bounds
pub mod Answers
