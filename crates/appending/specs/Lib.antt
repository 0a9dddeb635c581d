-- What the functions promise: bytes appended, or the end passed.
pub mod Appended
