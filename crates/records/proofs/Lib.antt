pub mod Long
pub mod Scanning
