-- What the contracts cite besides the definitions of terms: the set of a move's bound facts.
pub mod Atoms
