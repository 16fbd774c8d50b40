-- Laws of lines and of turns.
pub mod LineLaws
pub mod TurnLaws
