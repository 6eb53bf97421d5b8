pub mod Long
pub mod Gathered
pub mod Counts
pub mod Beginning
pub mod Ending
pub mod Renumbered
