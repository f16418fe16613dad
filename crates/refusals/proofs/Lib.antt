-- What the proofs of this crate share.
pub mod Accepted
pub mod Testing
