-- Laws of the moves.
pub mod MoveSteps
