pub mod Noted
pub mod FirstPass
pub mod Boards
pub mod Equal
pub mod Theorem
pub mod OfRun
pub mod Handed
pub mod Examples
