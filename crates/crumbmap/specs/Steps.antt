-- Inner steps: the map as the code answers it, and the valid crumbs as bits.
pub mod Places
pub mod Marks
