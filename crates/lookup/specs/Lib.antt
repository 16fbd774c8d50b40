-- The steps of ask and count.
pub mod Steps
