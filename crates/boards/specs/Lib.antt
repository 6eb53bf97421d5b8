pub mod Alike
pub mod Compared
pub mod Remains
pub mod Settings
pub mod Side
