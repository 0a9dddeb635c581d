-- The proofs of the code, and the laws of pairs that they use.
pub mod Pairs
