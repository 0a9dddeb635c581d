-- What the contracts cite besides the definitions of observed: rules in memory.
pub mod Sheet
