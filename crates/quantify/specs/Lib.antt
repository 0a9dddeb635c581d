-- Quantifiers over numbers and lists, for definitions.
pub mod Quantify
