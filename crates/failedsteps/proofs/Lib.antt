-- One step asked for row 28, the steps of a record, and the records of a book, for the proofs of the functions.
pub mod State
pub mod Going
pub mod Book
