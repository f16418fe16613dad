pub mod Wavetable
pub mod Stages
