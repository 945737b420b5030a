pub mod Came
pub mod Buckets
pub mod Chains
pub mod ControlNumbers
pub mod LineNumbers
