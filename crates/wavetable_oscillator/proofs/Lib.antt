-- What the proofs of this crate share, and bench values.
mod Going
mod Composed
pub mod Bench
pub mod BlockKinds
