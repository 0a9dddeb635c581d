-- The proof of the code, and laws for callers.
pub mod Laws
