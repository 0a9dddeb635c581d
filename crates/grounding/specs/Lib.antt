-- What the contracts cite besides the definitions of terms and factgroups.
pub mod Grounding
