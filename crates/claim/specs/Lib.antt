pub mod GateDemands
pub mod Edges
pub mod RunList
pub mod Claim
pub mod Examples
pub mod Days
pub mod Uses
