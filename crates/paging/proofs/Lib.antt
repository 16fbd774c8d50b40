-- Laws of a run of whole buckets, and of the endings of a page.
pub mod PageSteps
