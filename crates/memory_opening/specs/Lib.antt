pub mod Questions
pub mod Opening
