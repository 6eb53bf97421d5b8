pub mod Long
pub mod Choice
pub mod Target
pub mod Ladder
