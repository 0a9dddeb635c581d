-- A plan executed over a state as a mask of facts, by the rules that are given.
pub mod Statemask
pub mod Executing
