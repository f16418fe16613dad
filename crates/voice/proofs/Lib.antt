-- What the proofs of this crate share, and what those above cite.
pub mod Laws
pub mod RowKinds
