-- What the proofs of this crate share.
pub mod Floats
pub mod Words
pub mod WholeParts
pub mod Parts
pub mod Values
pub mod HeldWhole
pub mod ByFields
pub mod SmallWhole
pub mod Bench
