pub mod Grouped
pub mod ImmediatePlans
