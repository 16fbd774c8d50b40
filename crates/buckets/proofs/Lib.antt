-- Laws of words and of a bucket's bytes and members, for any layout.
pub mod WordLaws
pub mod BitLaws
pub mod GapLaws
pub mod TopLaws
pub mod SlotBytes
pub mod BucketLaws
pub mod ElementLaws
pub mod PieceLaws
pub mod HighLaws
pub mod KeyBytes
pub mod CarryLaws
