-- Laws of frames, of what they print, and that a list is a whole walk.
pub mod FrameLaws
pub mod PerformLaws
pub mod WalkLaws
