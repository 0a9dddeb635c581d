-- The proofs of the code, and laws: Formed and Returns for this crate's functions; NewBook and Kept for what the new book keeps; Front and
-- OneRecord for looking over the record alone, which has the theorem of specs/OneRecord.antt; Bounds for callers.
pub mod Formed
pub mod NewBook
pub mod Kept
pub mod Front
pub mod OneRecord
pub mod Returns
pub mod Bounds
