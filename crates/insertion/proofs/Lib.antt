-- The laws of the steps of insert.
pub mod TakerLaws
pub mod InsertSteps
