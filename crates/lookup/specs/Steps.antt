-- Inner steps of ask and count.
pub mod Lookups
