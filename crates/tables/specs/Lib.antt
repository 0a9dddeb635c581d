-- Tables of what suits, and when they are right.
pub mod Tables
