-- Laws of truth values.
pub mod Bools
