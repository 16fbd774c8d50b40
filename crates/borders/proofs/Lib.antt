-- Laws of the zeros below a one.
pub mod BorderLaws
