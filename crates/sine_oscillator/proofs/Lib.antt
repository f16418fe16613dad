-- What the proofs of this crate share.
pub mod NearSine
pub mod SineTop
