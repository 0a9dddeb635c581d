-- What follows for the new book where a record is added.
pub mod ReadBack
pub mod Stepless
