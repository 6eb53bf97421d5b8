pub mod Puts
pub mod Digits
pub mod Fields
pub mod Names
pub mod Placed
pub mod Told
pub mod Room
