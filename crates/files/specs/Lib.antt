pub mod Chunks
pub mod Beside
