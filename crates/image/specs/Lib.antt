-- An image as the contracts of the calls' steps speak of it.
pub mod Steps
