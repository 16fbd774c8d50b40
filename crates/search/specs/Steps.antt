-- Inner steps: a bucket that was read as the contracts of its search speak of it.
pub mod Searches
