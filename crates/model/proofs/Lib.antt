-- Theorems about the definitions of specs/.
pub mod Next
pub mod Seen
pub mod Stricter
pub mod Lockstep
pub mod Rows
pub mod Impossible
pub mod Judge
pub mod Exact
pub mod Failed
pub mod OneAction
pub mod Order
pub mod Bounds
mod Cases
