-- What the functions promise: a call's answer with the lent output; the new header; and looking over the record alone.
pub mod Outcome
pub mod OneRecord
pub mod NewHeader
