-- The paper's limits and sizes, and the ceilings of the code.
pub mod Limits
