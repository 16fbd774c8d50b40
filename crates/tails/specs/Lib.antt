-- What the steps of opening an image and of changing it ask and say.
pub mod Steps
