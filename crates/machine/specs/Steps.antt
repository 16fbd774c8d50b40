-- Inner steps: what a front bucket keeps and what leaves it, when keys are put in one after the other.
pub mod Spills
