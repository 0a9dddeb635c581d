-- What a cursor over the facts of a list says.
pub mod Rest
