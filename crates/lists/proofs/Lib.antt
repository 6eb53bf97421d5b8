pub mod Kept
pub mod Played
pub mod Laws
pub mod Tags
pub mod Surveying
pub mod Floats
