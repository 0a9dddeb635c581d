-- What the contracts cite besides the definitions of statemask.
pub mod Execution
