pub mod RowLaws
pub mod Lines
