-- The proofs of the code, and what a call returns, row by row.
pub mod Returns
