-- What the contracts cite: masks bit by bit (Bits), and as whole sets (Sets).
pub mod Bits
pub mod Sets
