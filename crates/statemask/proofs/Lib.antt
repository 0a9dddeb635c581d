-- Masks execute a plan as a model does over states: facts in a mask (Masks), one step (Step), the whole plan and its answer (Plan).
pub mod Masks
pub mod Step
pub mod Plan
