-- What a number says of where a member stands: layouts, the fingerprint of a hash, the map and its way back.
pub mod Layouts
pub mod Fingerprints
pub mod CrumbMap
pub mod Steps
