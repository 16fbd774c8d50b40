-- The steps of a merge.
pub mod Steps
