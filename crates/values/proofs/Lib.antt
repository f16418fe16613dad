-- What the proofs of this crate share.
pub mod Fields
pub mod Values
