-- What the bytes of a book and an order say, item by item: sections, a record's head, typed numbers, facts, steps, and whether each is right.
pub mod Sections
pub mod Head
pub mod Schema
pub mod Facts
pub mod Steps
pub mod Typing
pub mod Agree
pub mod Told
