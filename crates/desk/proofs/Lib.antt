-- The desk over bytes: a step, a run, and a load as its LIMIT events.
pub mod Events
pub mod Stepped
pub mod Cutting
mod SoundAfter
pub mod RunLoop
pub mod NextLeft
pub mod Loads
