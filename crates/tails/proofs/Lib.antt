-- Laws of a tail read by words, of an image opened, of its two parts, each lent and come back, of a call on its body, and of its change.
pub mod WordLaws
pub mod OpenLaws
pub mod PartLaws
pub mod CallLaws
pub mod ChangeLaws
