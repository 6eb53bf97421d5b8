pub mod Outcome
pub mod Least
pub mod Start
pub mod Any
pub mod Check
pub mod Same
pub mod Scan
pub mod Examples
