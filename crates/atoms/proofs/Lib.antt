-- Laws for the proofs of src/: bits in words (Words), the parameters that fill places (Places), and the set, one relation after the other (Atoms).
pub mod Words
pub mod Places
pub mod Atoms
