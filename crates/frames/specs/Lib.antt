-- What reading and writing leave of the program's image.
pub mod Steps
