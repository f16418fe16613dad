pub mod Waves
pub mod Stages
