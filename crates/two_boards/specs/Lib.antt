pub mod Late
pub mod Claim
