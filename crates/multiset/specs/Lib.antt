-- Lists of numbers, as the layers above use them: multisets, and the digits of a number.
pub mod Multisets
pub mod Digits
