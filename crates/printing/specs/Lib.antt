-- The steps of an occupancy page.
pub mod Steps
