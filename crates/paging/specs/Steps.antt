-- Inner steps: a page's run of whole buckets.
pub mod PageRuns
