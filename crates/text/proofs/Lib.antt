-- What the proofs of this crate share.
pub mod Split
pub mod FirstLine
pub mod Digits
pub mod Joining
pub mod LowerDigits
