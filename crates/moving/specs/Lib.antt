-- The steps of the moves.
pub mod Steps
