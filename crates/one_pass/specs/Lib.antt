pub mod Script
pub mod InOrder
