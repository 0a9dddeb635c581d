-- What is observed gives what learning is defined to give: from 32 bytes replaced up to the sheet and rows 11, 12 and 28.
pub mod Facts
pub mod Params
pub mod Parts
pub mod Sets
pub mod Noted
pub mod InSet
pub mod Observe
pub mod Sheet
pub mod Conflicts
pub mod Refuted
pub mod Unbound
pub mod Taught
pub mod Records
mod Cases
