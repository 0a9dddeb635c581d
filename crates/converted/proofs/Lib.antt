-- Converting a book, proved: Converted and Job have the theorems that specs/Converted states. Stands says what it is for bytes to stand in a book;
-- Rendered to Records go up from a number to records in a row, rendered in any form; Restored says that what was read is rendered as it was;
-- Header and Front treat the part before the records.
pub mod Stands
pub mod Rendered
pub mod Listed
pub mod Lists
pub mod Steps
pub mod Rendering
pub mod Record
pub mod Records
pub mod Restored
pub mod Header
pub mod Front
pub mod Converted
pub mod Job
