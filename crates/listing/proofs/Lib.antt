-- What the proofs of the functions cite.
pub mod Text
pub mod Sheet
pub mod Printed
