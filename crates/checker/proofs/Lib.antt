-- The rows of a check and what a plan comes to, for the proofs of the functions.
pub mod Executed
pub mod Rows
