-- Laws of the passes of a merge.
pub mod MergeSteps
