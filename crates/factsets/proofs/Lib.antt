-- Laws of facts in order, of their numbers, of states of good form, and of states in which facts turn.
pub mod Suits
pub mod Numbers
pub mod Holding
pub mod States
pub mod Sorted
pub mod Toggled
pub mod Turned
