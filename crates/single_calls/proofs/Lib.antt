pub mod Ones
pub mod Whole
pub mod Pairs
