pub mod Layout
pub mod Rosters
pub mod View
pub mod Readable
pub mod Stores
pub mod FieldStores
pub mod Opening
pub mod Judged
