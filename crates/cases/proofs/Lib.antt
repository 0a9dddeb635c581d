-- The cases as one theorem, in Cases; LongBook has the two that are not computed.
pub mod LongBook
pub mod Cases
