-- Laws of the definitions of specs/, by subject: what a good answer says, where it ends, where a refusal stands,
-- and that what is good is so wherever its bytes stand. For code and theorems alike.
pub mod Chains
pub mod Header
pub mod Reading
pub mod States
pub mod Records
pub mod Typing
pub mod Copies
pub mod Front
pub mod LookOver
pub mod Parts
pub mod Orders
pub mod OrderForm
