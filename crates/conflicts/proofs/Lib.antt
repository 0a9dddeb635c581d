-- Laws for the proofs of src/: what is in a set, and the two answers.
pub mod Refusals
