-- The proofs of the code, and the laws that they use: Sets for a step's six sets, Steps for what is observed after it, Start before any record.
pub mod Sets
pub mod Steps
pub mod Start
