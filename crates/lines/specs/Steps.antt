-- Inner steps: the turns of the loop that reads.
pub mod Turns
