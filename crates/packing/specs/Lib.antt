-- What the C boundary gives: an answer packed into one number, and a tail's numbers in an output.
pub mod Packing
pub mod Totals
