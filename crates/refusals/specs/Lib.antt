pub mod Calls
pub mod Refusals
