-- Inner steps: what a front bucket keeps, and what leaves it.
pub mod Settling
