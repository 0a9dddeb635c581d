-- Laws of kinds, of the order of facts, of bound facts, and of schemas that say the same.
pub mod Suits
pub mod Order
pub mod Atoms
pub mod Same
pub mod Agree
