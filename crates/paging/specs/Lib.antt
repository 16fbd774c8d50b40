-- The steps of page.
pub mod Steps
