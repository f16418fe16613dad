-- What the proofs of this crate share.
pub mod Magnitude
pub mod Sums
pub mod Frames
pub mod Summing
pub mod Runs
pub mod Rising
pub mod PitchEntries
