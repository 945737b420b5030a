pub mod Comes
pub mod Lasts
pub mod Walks
