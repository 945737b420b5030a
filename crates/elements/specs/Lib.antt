pub mod Envelope
pub mod Rules
pub mod Tests
pub mod Checks
pub mod Fails
pub mod Limits
