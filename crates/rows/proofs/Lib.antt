-- Laws of a row swept three times.
pub mod FormRowLaws
pub mod SweepLaws
pub mod Swept
