pub mod Rows
pub mod Laws
pub mod RowLaws
pub mod Going
