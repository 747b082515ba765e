pub mod Soundness
pub mod Cells
pub mod Each
pub mod SoundMemory
