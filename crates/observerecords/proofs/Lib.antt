-- One step, the steps of a record, the record and all records observed, for the proofs of the functions.
pub mod Ready
pub mod Steps
pub mod Record
pub mod Records
