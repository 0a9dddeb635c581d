-- What is right of a step and of a list of facts, and the state that a list is.
pub mod Right
pub mod Holding
