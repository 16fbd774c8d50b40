-- Inner steps: layout 1's word, and the way of a select to its byte.
pub mod Counts
pub mod Wide
