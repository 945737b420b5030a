pub mod Bits
pub mod Breaks
pub mod Rows
