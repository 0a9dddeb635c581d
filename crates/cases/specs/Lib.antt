-- Cases as data: what the definitions give, and what the paper says. Cases has them all in one list.
pub mod Marked
pub mod Further
pub mod Shorts
pub mod Adding
pub mod Stepless
pub mod Sequences
pub mod EachStart
pub mod EndSheet
pub mod NotGone
pub mod Cases
