-- Question 5: the tests as the code asks them, what each condition says as facts, and that a yes means a sound book (`SoundDesk`).
mod Joining
pub mod Asked
pub mod RosterLaws
pub mod Records
pub mod Details
mod Passing
mod EachRecord
pub mod Gathering
mod PositionTests
mod Tables
mod Whole
mod AskedInOrder
pub mod Questions
pub mod RosterFacts
pub mod LineFacts
pub mod OrderFacts
mod OrdersTested
pub mod PositionFacts
pub mod SoundDesk
pub mod Bounded
pub mod Agreement
mod RowChunks
