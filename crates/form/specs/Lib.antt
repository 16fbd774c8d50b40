-- The form of an image that every call takes (C-14): document 01's image, here the body, and a tail behind it; the calls on it and the moves.
pub mod Tails
pub mod Calls
pub mod Moves
