-- Laws of the quantifiers, and of members of lists.
pub mod Quantify
pub mod Truth
pub mod Members
pub mod Mapped
pub mod Chosen
