pub mod CutOff
pub mod Edges
pub mod Heights
pub mod Held
pub mod Layers
