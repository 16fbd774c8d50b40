-- Inner steps of delete.
pub mod Deletions
