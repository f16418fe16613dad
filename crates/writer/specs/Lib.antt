pub mod Writing
pub mod Tidy
