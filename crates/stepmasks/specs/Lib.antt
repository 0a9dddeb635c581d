-- Names for what the functions of stepmasks compute on the way to the definitions of observed.
pub mod Marks
