-- The proofs of the code, and laws of what is carried on, for callers.
pub mod Turns
pub mod Carrying
