-- The passes of a check.
pub mod Steps
