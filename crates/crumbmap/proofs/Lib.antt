-- Laws of layouts, of fingerprints, of the map and of the valid crumbs' bits.
pub mod LayoutLaws
pub mod FingerprintLaws
pub mod TestLaws
pub mod StrideLaws
pub mod CoincideLaws
pub mod SplitLaws
pub mod CrumbMapLaws
pub mod MarkLaws
pub mod ValidLaws
