-- What the crates above cite: that the lines are text.
pub mod Texts
