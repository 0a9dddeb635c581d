-- The proofs of the code, and laws: Cursors for the cursor and its loops, Laws for a state, Looking for a list read for something else.
pub mod Laws
pub mod Cursors
pub mod Looking
