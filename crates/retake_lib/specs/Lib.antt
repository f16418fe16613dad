pub mod Program
pub mod Edits
pub mod Lent
