-- What the proofs of this crate share.
pub mod Order
pub mod Within
pub mod RowsRight
pub mod FirstBad
pub mod Same
pub mod Table
