-- What the contracts of the listing cite.
pub mod SheetOf
