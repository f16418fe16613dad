pub mod Block
pub mod Stages
