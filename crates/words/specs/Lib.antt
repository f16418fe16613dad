pub mod Binary32
pub mod Parts
pub mod Fields
pub mod Inner
