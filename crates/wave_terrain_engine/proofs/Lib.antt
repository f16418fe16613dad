-- What the proofs of this crate share.
pub mod Blocks
pub mod Constants
pub mod Counts
pub mod Shifts
pub mod BlockKinds
