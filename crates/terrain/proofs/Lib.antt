-- What the proofs of this crate share, the claims on edges, and the bench values.
pub mod Bench
pub mod Edges
pub mod Layers
pub mod Places
