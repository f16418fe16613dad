-- What the proofs of this crate share.
pub mod Testing
pub mod Storing
pub mod Settling
pub mod Accepted
pub mod Examples
