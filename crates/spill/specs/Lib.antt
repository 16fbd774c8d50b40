-- Two lists of keys that share a front bucket, a key that can go behind it, and a target that took all keys or not.
pub mod Steps
