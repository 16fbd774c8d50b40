-- One frame of the small program, by the plain machine.
pub mod Frames
