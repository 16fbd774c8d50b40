-- Laws of the reader, and of what a sound bucket holds.
pub mod PassLaws
pub mod MarkLaws
pub mod QuickLaws
pub mod RiseLaws
pub mod SlotOrder
pub mod ReadLaws
pub mod CrumbLaws
pub mod HeldLaws
