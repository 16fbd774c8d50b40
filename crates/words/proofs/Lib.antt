-- Laws of select: its table, and the count of ones byte by byte.
pub mod WideLaws
pub mod SelectLaws
pub mod ByteLaws
pub mod HalfLaws
