-- Inner steps: the texts that a run prints.
pub mod Runs
