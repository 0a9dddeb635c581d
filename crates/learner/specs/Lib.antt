-- What the functions of the learner say.
pub mod Learner
