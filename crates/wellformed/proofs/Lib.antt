-- Theorems about good form, from bytes up to the hypotheses of `model`. To cite: recorded-right (Records), every-record-has-a-step (Stepped), formed (Formed), order-right and grounded (Orders),
-- fact-of-atom and fact-of-places (Inverse); of states in which facts turn, the laws of Toggled and Turned.
pub mod Headers
pub mod Records
pub mod Parts
pub mod Stepped
pub mod Atoms
pub mod Inverse
pub mod Values
pub mod Formed
pub mod Orders
pub mod Learnable
pub mod Ends
