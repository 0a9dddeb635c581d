-- Records in another sequence, proved: Permuted has the theorems that specs/Permuted states. Sequences says what a permutation keeps; Records tells
-- what a book says by its records; Sections compares what stands before them; Refiled is the book of permuted records.
pub mod Sequences
pub mod Records
pub mod Sections
pub mod Refiled
pub mod Permuted
