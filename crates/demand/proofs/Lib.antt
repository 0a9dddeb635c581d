-- The demands, proved: Demand3, Absent and Demand2 for one book, TwoBooks and Renumbered for two, EachStart for the starts of an order, EndSheet for the
-- end sheet; OneStart reads Demand3 for one start at a time. Failing, Recorded and Agree serve them; Alone, AloneRead and AloneGood serve EachStart.
pub mod Failing
pub mod Demand3
pub mod Absent
pub mod OneStart
pub mod Recorded
pub mod Demand2
pub mod Agree
pub mod TwoBooks
pub mod Renumbered
pub mod Alone
pub mod AloneRead
pub mod AloneGood
pub mod EachStart
pub mod EndSheet
