-- The proofs of the code, and laws: Climb and Turns for this crate's functions, Laws for callers.
pub mod Climb
pub mod Turns
pub mod Laws
