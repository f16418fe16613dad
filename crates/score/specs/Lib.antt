pub mod Numbers
pub mod Rows
pub mod Limits
pub mod Inner
