-- Laws of answers and of how many members there can be.
pub mod PairLaws
pub mod ChangeLaws
