-- Laws for the proofs of src/, by subject: good answers of masks, a plan and its goal, the starts one by one, errors that are mapped.
pub mod Laws
pub mod Out
pub mod Starts
pub mod Mapped
