-- The worked interchanges with their verdicts, and what is proved of them.
pub mod Cases
pub mod Worked
