-- A lone ask by what was read, and what is known of a row of asks, entry by entry.
pub mod LoneLaws
pub mod GroupLaws
