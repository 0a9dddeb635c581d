-- Learning in one walk, as statements.
pub mod OneWalk
