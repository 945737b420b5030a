-- What a guide means, what a judge may ask of it, and the law.
pub mod Meaning
pub mod Asked
pub mod Law
pub mod Judged
