pub mod Filled
pub mod Planned
pub mod Moved
pub mod Steps
