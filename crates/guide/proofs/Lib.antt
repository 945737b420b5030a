pub mod LawTest
pub mod Rows
pub mod Sets
pub mod Short
