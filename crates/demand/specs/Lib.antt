-- The demands as statements, for a reader.
pub mod Demand3
pub mod Absent
pub mod Demand2
pub mod TwoBooks
pub mod EachStart
pub mod EndSheet
