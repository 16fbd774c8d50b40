-- Laws of two lists that share a front bucket, and of keys pushed behind it.
pub mod SpillSteps
pub mod SettleLaws
pub mod PushLaws
