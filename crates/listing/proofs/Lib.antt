-- Laws of merged lists, and of a front bucket's members.
pub mod MergedLists
pub mod ListingLaws
