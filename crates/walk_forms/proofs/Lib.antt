pub mod Data
pub mod Fitting
pub mod Moving
