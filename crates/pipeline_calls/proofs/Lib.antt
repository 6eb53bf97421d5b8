pub mod Rights
pub mod Taken
pub mod Sames
