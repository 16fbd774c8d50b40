-- What a sweep along a row asks and says.
pub mod Steps
