pub mod Path
pub mod Sine
