-- The steps of listing a front bucket.
pub mod Steps
