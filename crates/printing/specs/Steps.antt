-- Inner steps: a page's buckets, as they are read and then counted.
pub mod Counts
