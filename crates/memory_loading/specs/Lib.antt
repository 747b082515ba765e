pub mod Entries
pub mod Loading
pub mod Passing
