-- Laws of edits.
pub mod SlotEdits
pub mod FrontEdits
pub mod BackEdits
pub mod WriteLaws
