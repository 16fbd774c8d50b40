-- One bucket as the contracts of its edits speak of it.
pub mod Steps
