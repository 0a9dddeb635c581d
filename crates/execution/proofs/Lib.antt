-- Laws for the proofs of src/, by subject: the start state, the plan, the goal.
pub mod Start
pub mod Plan
pub mod Goal
