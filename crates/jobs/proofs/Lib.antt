-- Laws of the definitions in specs/: the rule sheet that rules give and what its bits say, in Sheet; a row over a list, in FirstRefused; the starts
-- of an order, in Starts; the bytes of a recorded step, in Bytes; steps that went and steps that did not, in Parted.
pub mod Sheet
pub mod FirstRefused
pub mod Parted
pub mod Starts
pub mod Bytes
