pub mod Class
pub mod Clips
pub mod Shots
pub mod Things
pub mod Limits
pub mod Survey
pub mod Floats
