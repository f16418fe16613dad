-- What the proofs of this crate share, and the bench value.
pub mod Sizes
pub mod Readings
pub mod Bench
