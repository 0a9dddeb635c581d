-- Books with the same transitions, proved: Twins has the theorems that specs/Twins states. Answers says what it is for answers to be the same but for the
-- places of 11 and 28; Trimmed and Verdicts are about models alone; Told is about recorded steps without their places; Books compares two books in
-- planning's terms; Order, Learning and Checking are the calls.
pub mod Answers
pub mod Trimmed
pub mod Verdicts
pub mod Told
pub mod Books
pub mod Order
pub mod Learning
pub mod Checking
pub mod Twins
