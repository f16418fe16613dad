pub mod Oscillator
pub mod Stages
