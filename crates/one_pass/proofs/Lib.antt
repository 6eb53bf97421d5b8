pub mod Chain
pub mod InOrder
