-- What is carried on from state to state of a record.
pub mod Turning
