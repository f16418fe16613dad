-- What the proofs of this crate share.
pub mod Cases
pub mod Copying
pub mod Places
pub mod Moving
pub mod Shifts
pub mod Filling
