-- Inner steps: one bucket as the contracts of its reader speak of it.
pub mod Readings
pub mod Slots
pub mod Marks
