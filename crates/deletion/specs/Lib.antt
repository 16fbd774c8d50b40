-- The steps of delete.
pub mod Steps
