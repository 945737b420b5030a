pub mod Model
pub mod Placing
pub mod Stages
pub mod Structure
pub mod Next
pub mod Placed
pub mod Turns
