-- From a fact to its bound fact, in numbers.
pub mod Pairs
