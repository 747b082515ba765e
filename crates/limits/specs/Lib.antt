pub mod Lines
pub mod Questions
pub mod Asked
pub mod Answers
pub mod InBytes
pub mod Raised
pub mod Numbers
pub mod Bounds
