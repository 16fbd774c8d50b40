-- One bucket as the contracts of its reader speak of it.
pub mod Steps
