-- The ledger is what the image holds, the total is its sum, walks list it, and demand 3 follows.
pub mod LedgerLaws
pub mod StepLaws
pub mod HistoryLaws
pub mod DueLaws
pub mod WalkSegments
pub mod ShownLaws
pub mod Theorem
