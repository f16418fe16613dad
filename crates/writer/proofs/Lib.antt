-- What the proofs of this crate share.
pub mod Lines
pub mod Refusing
pub mod ReadBack
pub mod Fits
pub mod AsItStood
pub mod Tidying
pub mod Examples
