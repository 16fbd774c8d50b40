-- Stored calls: the checksum of what a call was lent.
pub mod Checksums
