-- Learning in one walk: what is observed after a record is made from what was observed before and that record; sheet, 11 and 12 come from what is observed.
pub mod Inverse
pub mod Observed
pub mod Begun
pub mod OnSet
pub mod Rules
pub mod Faithful
pub mod Seen
pub mod Taught
pub mod SeenSets
