-- What the proofs of this crate share.
pub mod Differentiating
pub mod Walking
pub mod Keys
pub mod Composed
pub mod BlockKinds
