pub mod Working
pub mod SumsChanged
