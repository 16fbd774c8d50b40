-- Stretches of tags and crumbs as the contracts speak of them.
pub mod Steps
