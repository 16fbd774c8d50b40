-- Inner steps of check.
pub mod Passes
