-- The proofs of the code, and laws of bytes appended, for callers too.
pub mod Appended
