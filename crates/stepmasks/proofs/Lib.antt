-- The proofs of the code, and the laws that they use: Unbound for row 11 of facts in a row, Facts for the facts of a state in the bytes, Looks for
-- those that are looked over, Steps for those of a step's two states, Turning for those that turn.
pub mod Unbound
pub mod Facts
pub mod Looks
pub mod Steps
pub mod Turning
