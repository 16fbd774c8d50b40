-- The contracts and the theorem joined: demand 3 of the calls, and the moves.
pub mod ToldRuns
pub mod ToldWalks
pub mod ToldMoves
pub mod Whole
