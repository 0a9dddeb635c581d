-- The answer of a job, how rows of the refusal table follow each other, a walk over items, and the table's order as data.
pub mod Answer
pub mod Table
pub mod Walk
pub mod Refusal
