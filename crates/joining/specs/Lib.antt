-- One front bucket of a merge as its contracts speak of it.
pub mod Steps
