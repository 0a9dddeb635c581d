-- Laws of bytes written (Written), and of two-byte numbers written and read (Two).
pub mod Written
pub mod Two
