-- The steps of insert.
pub mod Steps
