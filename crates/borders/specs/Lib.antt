-- The zeros of a word that stand right below a one: what the code's contracts cite.
pub mod Steps
