-- Inner steps of merge.
pub mod Targets
