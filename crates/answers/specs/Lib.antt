-- The answers of the calls: what each case of an answer enum means, answers as pairs of numbers, and the entries of a row.
pub mod Answers
pub mod Pairs
pub mod Rows
