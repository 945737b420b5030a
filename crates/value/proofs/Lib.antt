pub mod Bytes
pub mod Calendar
pub mod Meaning
pub mod Numbers
pub mod Signs
