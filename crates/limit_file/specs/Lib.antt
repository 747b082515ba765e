pub mod Layout
pub mod Tags
pub mod Sample
