-- What the functions of the checker say.
pub mod Checker
