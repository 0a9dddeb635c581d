-- Bytes written over a list.
pub mod Written
