-- What the proofs of this crate share.
pub mod Before
pub mod Ending
