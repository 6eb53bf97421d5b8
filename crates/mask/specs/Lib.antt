pub mod Mask
pub mod Visit
pub mod Laws
pub mod By
