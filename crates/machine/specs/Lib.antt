-- The plain machine of document 01, from the image up to the calls, and the rows and occupancy pages of document 02.
pub mod Results
pub mod Images
pub mod Bags
pub mod Machine
pub mod Copies
pub mod Once
pub mod Steps
pub mod Pages
pub mod Checks
pub mod Homes
pub mod Merges
pub mod Calls
pub mod Rows
pub mod OccupancyPages
