-- Laws for the proofs of src/ and stepping's: groups and columns of a step's objects (Objects), and the bound facts that hold, relation by relation (Held).
pub mod Objects
pub mod Held
