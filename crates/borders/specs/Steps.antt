-- Inner steps: a word's zeros below a one.
pub mod Borders
