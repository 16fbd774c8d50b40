-- Laws of stretches that something is put into or taken out of: lists, lanes of words, tags, crumbs.
pub mod ShiftLaws
pub mod LaneLaws
pub mod MoveLaws
pub mod TagLaws
pub mod CrumbLaws
