-- Document 01 from decoded bytes on: learning, the rule sheet, the check of a plan, adding, the printed listing, and the judge over a book.
pub mod Planning
pub mod Learn
pub mod SheetBits
pub mod Check
pub mod Alone
pub mod Add
pub mod Convert
pub mod Judge
pub mod Listing
pub mod RuleSets
