-- The inner steps of a row of asks.
pub mod Sweeps
