pub mod Joined
pub mod Joins
pub mod Claim
pub mod Ending
pub mod Plan
