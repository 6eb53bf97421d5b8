pub mod Flags
pub mod Limits
pub mod Parts
pub mod Places
pub mod Product
pub mod Numbers
