-- Inner steps of listing a front bucket.
pub mod Listings
