-- Laws of ascending lists as multisets, of sums, and of digits.
pub mod MultisetLaws
pub mod OrderLaws
pub mod SumLaws
pub mod RankLaws
pub mod SlotLaws
pub mod DigitLaws
