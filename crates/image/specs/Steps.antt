-- Inner steps: an image as the contracts of the calls' steps speak of it.
pub mod ImageReads
pub mod Listed
