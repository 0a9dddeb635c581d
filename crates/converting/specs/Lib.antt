-- What a call promises.
pub mod Outcome
