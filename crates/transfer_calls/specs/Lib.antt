pub mod Moved
pub mod Barriers
pub mod Regions
pub mod Resolved
