pub mod Added
pub mod Amounts
pub mod More
pub mod Pushes
pub mod Ties
pub mod TotalWords
pub mod TotalsLie
pub mod TotalsJudged
