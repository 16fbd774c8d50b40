-- Select: what the code's contracts cite.
pub mod Select
pub mod Steps
