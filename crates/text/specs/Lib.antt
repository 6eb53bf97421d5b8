pub mod Digits
pub mod Field
pub mod Command
pub mod Wrote
pub mod Shown
pub mod Put
pub mod Examples
