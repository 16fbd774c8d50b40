-- Laws of the turns that the program makes.
pub mod RunLaws
