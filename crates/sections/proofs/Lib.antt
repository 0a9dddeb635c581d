-- The proofs of the code, and Tests, the laws that they use.
pub mod Tests
