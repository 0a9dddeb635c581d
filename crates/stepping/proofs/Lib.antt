-- Laws for the proofs of src/, by subject: words of a set of what is observed (Sets), the needs of the relations so far (Needs) and the state after
-- them (Next).
pub mod Sets
pub mod Needs
pub mod Next
