-- What the cursor over facts tells, of one fact and of a list.
pub mod Cursor
pub mod Looked
pub mod Wrong
