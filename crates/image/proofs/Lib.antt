-- Laws of an image's parts, of readings and of writings.
pub mod ImageReadLaws
pub mod PartLaws
pub mod ImageWriteLaws
pub mod EmptyLaws
pub mod ListedLaws
