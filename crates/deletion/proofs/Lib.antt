-- The laws of the steps of delete.
pub mod ChoiceLaws
pub mod LeavingLaws
pub mod DeleteSteps
