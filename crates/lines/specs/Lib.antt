-- The small program of document 01 on its whole input: lines, the text that answers them, and turns of taking bytes in.
pub mod Inputs
pub mod Steps
