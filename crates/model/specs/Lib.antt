-- Planning over numbered facts, with no bytes: what a model is, what the judge says, what is learned, how a plan is checked.
pub mod Domain
pub mod Model
pub mod Judge
pub mod Learned
pub mod Check
pub mod Formed
pub mod Exact
pub mod Demand
pub mod Stricter
pub mod Alike
