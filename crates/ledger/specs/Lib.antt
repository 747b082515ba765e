pub mod Orders
pub mod Roster
pub mod Positions
pub mod Fillings
pub mod Moves
pub mod Records
pub mod Derivatives
