pub mod Met
pub mod Judge
pub mod Laws
pub mod Turns
pub mod Promise
pub mod Judgment
