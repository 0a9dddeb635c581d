-- Sets of objects as numbers, and tables of them.
pub mod Sets
