-- Inner steps of insert.
pub mod Insertions
