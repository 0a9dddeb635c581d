-- Document 01's formats in the order of its tables. A row of the refusal table is a `refuse` line: test, number, place.
pub mod Header
pub mod Lists
pub mod Toggled
pub mod Form
pub mod Filed
pub mod States
pub mod Records
pub mod LookOver
pub mod Decode
pub mod Parts
pub mod Order
