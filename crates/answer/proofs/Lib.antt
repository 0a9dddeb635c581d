-- Laws of an answer, of rows in order, of walks, and of answers with a position; the proofs of the code.
pub mod Laws
pub mod Turns
pub mod Bounds
pub mod Refusals
pub mod Entries
pub mod Items
pub mod Positions
pub mod Walks
pub mod Results
