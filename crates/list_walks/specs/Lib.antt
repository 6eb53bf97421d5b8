pub mod Back
pub mod Fold
pub mod Map
pub mod On
pub mod Sift
pub mod Turns
