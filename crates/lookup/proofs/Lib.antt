-- Laws of the steps of ask and count.
pub mod AskSteps
pub mod CountSteps
