-- The demands proved of the gate over bytes, then as the claim says them, and the way back; and instances over bytes that use each: days
-- that are computed of the plain book and carried over.
pub mod Checks
pub mod Opened
pub mod Gate
pub mod Readings
pub mod GateDemands
pub mod RunList
pub mod Carried
pub mod Rosters
pub mod Edges
pub mod Held
pub mod Demands
pub mod Back
pub mod Uses
pub mod Plainly
pub mod Examples
pub mod DaysOpened
pub mod ListingDay
pub mod LongerDay
pub mod Drawn
