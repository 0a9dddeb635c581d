-- The proofs of the code, and laws: Compared, Failed, Parts and Going for the steps of a record, Laws and Bounds for callers too.
pub mod Compared
pub mod Failed
pub mod Parts
pub mod Going
pub mod Laws
pub mod Bounds
