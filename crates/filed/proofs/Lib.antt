-- The proofs of the code, and how its functions read a step by its mark.
pub mod Mark
