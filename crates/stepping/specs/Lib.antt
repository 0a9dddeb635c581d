-- What the contracts cite besides the definitions of terms and statemask.
pub mod Stepping
