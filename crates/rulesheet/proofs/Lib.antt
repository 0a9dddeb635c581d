-- Laws for the proofs of src/: the sheet, block after block (Blocks).
pub mod Blocks
