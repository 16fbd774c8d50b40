-- The word over mini-buckets, and the 64 bytes of a front and of a backyard bucket, both ways.
pub mod Words
pub mod Buckets
