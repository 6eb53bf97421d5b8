pub mod Phases
pub mod Claim
pub mod Complete
pub mod OneNumber
