pub mod Step
pub mod Days
pub mod Run
pub mod Load
