-- The tail read back, the members counted, the moves there and back, pages in a walk, and cases computed.
pub mod TailLaws
pub mod CountLaws
pub mod MoveLaws
pub mod WalkLaws
pub mod Cases
