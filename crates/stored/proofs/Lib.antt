-- Laws of the checksum.
pub mod ChecksumLaws
