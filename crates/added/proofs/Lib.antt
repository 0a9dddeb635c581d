-- The proofs of specs/.
pub mod ReadBack
pub mod Stepless
