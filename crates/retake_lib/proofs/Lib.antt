-- What the proofs of this crate share.
pub mod Editing
pub mod Outputs
pub mod Exact
pub mod Files
pub mod Texts
