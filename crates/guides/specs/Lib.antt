-- The meanings of the guides, that they keep the law, and meanings that break it.
pub mod Tables
pub mod Bits
pub mod Rows
pub mod GuideB
pub mod GuideM
pub mod GuideOdd
pub mod Kept
pub mod Unlawful
