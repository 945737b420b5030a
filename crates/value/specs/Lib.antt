pub mod Digits
pub mod Decimals
pub mod Dates
pub mod Texts
pub mod Types
pub mod Means
