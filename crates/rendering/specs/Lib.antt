-- What the functions promise: the facts of two lists that are yet to come, what is asked of the book, and the whole.
pub mod Merge
pub mod Held
pub mod Good
pub mod Formed
