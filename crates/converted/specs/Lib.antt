-- What converting a book promises, for a reader.
pub mod Converted
