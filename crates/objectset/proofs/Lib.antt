-- Laws of sets of objects and of tables.
pub mod Laws
