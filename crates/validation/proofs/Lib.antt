-- Laws of the steps of a check.
pub mod CheckSteps
