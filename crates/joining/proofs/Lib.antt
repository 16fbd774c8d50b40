-- Laws of checked images, and of a front bucket of two of them put into a third.
pub mod CheckedImages
pub mod JoinLaws
