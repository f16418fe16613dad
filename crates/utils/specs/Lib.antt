pub mod Utils
pub mod Units
pub mod Interpolator
pub mod Holds
pub mod Frames
pub mod Rendered
