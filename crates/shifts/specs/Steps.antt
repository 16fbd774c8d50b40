-- Inner steps: stretches of bytes or halves that something is put into or taken out of.
pub mod Shifts
