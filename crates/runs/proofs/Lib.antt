-- What the proofs of this crate share.
pub mod Making
pub mod Turns
