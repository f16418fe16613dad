pub mod Bank
pub mod Readings
