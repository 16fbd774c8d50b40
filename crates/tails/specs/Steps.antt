-- Inner steps of opening an image and of changing it.
pub mod Openings
pub mod Changing
