-- What the proofs of the functions cite: the digits of a number.
pub mod Decimal
