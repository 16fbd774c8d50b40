-- Inner steps: what one front bucket of a merge asks, and what it comes to.
pub mod Joins
