-- Laws of hex digits, and of text written over an output.
pub mod TextLaws
pub mod PrintLaws
