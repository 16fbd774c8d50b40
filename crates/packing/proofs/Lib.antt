-- Each call's answer fits its packing.
pub mod ResultLaws
pub mod FitLaws
pub mod UnpackLaws
