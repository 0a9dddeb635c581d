-- Laws for the proofs of the functions.
pub mod Bytes
pub mod Merge
pub mod Held
pub mod Lists
pub mod Steps
pub mod Records
pub mod Converted
