-- What good form says of steps, states, orders and records, for the proofs above.
pub mod Right
pub mod Grounding
pub mod Stepped
