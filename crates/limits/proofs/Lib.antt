-- Lines and questions 17 and 19 to 24: the tables by the tests that the code makes, what a rise does to a position, and the bounds.
pub mod LinesRead
pub mod SetWords
pub mod Agreement
pub mod Raising
pub mod InOrder
pub mod Compared
mod Room
pub mod Examples
pub mod Answers
pub mod Refused
pub mod LineLaws
pub mod Asking
pub mod Refusals
