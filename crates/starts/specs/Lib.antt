-- What the functions say of rows 19 and 20.
pub mod Starts
