-- Names for what the functions of observestep compute on the way to the definitions of observed.
pub mod Notes
