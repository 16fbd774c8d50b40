-- Demand 3 of the calls themselves: what their contracts promise of a whole history.
pub mod Runs
pub mod Walks
pub mod Delivery
