-- Laws of search and of lists.
pub mod SearchLaws
pub mod FoundLaws
pub mod ListLaws
pub mod TagLaws
pub mod HalfLaws
