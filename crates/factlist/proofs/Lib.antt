-- The proofs of the code, and laws of what is yet to come, for callers too.
pub mod Rest
