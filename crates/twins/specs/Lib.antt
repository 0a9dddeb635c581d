-- What two books with the same transitions have in common, for a reader.
pub mod Twins
