-- Trees of rows, the derivations by them, and what marks determine of a derivation.
pub mod Tree
pub mod Marks
pub mod Derivations
pub mod Interchange
pub mod Law
pub mod Theorems
