-- Laws of masks, from one number's bits up: Numbers, Bytes, Laws, Whole, Flips. Turns serves the loops of src/, Examples a reader.
pub mod Numbers
pub mod Bytes
pub mod Laws
pub mod Whole
pub mod Flips
pub mod Joined
pub mod Turns
pub mod Examples
