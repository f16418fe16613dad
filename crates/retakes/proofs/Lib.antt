-- What the proofs of this crate share.
pub mod Takes
pub mod Runs
pub mod FreshRows
pub mod Moves
pub mod Doing
pub mod Retakes
pub mod Inherits
pub mod HoldKinds
