-- What is asked and said of a record that is observed.
pub mod Observing
