-- What books with the same records in another sequence have in common, for a reader.
pub mod Permuted
