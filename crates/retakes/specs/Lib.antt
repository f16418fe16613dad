pub mod Retakes
