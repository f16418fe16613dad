-- What the proofs of this crate share, and the bench values.
pub mod Bench
pub mod Waves
pub mod Corners
pub mod Stored
