-- From good form to steps that are faithful, and so to what is observed.
pub mod Params
pub mod Atoms
pub mod Bound
pub mod States
pub mod Unbound
pub mod UnboundEffects
pub mod Turned
pub mod ObservedRight
pub mod Sections
pub mod Second
pub mod OneWalk
