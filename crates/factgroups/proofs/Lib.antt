-- Laws for the proofs of src/ and of grounding's and stepping's, by subject: words of bits (Words), tests of all numbers below a bound (Tests), groups and columns (Groups);
-- Needs, Values and Effects by groups.
pub mod Words
pub mod Tests
pub mod Groups
pub mod Needs
pub mod Values
pub mod Effects
