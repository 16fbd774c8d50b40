-- Hex digits, and lines of them.
pub mod Texts
pub mod Lines
