-- Rows 1 to 12 and what is observed, for the proofs of the functions.
pub mod Book
