-- Row 28 of one step as the code asks it, and what the functions ask of a book.
pub mod Met
pub mod Asked
