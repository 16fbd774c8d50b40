-- Inner steps of the moves.
pub mod Moves
