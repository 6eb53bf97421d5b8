pub mod Sides
pub mod Programmed
pub mod Piped
