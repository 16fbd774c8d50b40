-- What the steps of a row ask and say.
pub mod Steps
