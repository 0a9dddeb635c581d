-- What the contracts cite besides the definitions of mask.
pub mod Groups
