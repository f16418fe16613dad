pub mod Take
pub mod Inner
