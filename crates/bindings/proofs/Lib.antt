pub mod Bytes
pub mod Entries
pub mod Long
pub mod Placing
pub mod Sweeping
pub mod Whole
pub mod Picking
