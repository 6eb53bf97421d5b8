pub mod Read
pub mod Search
pub mod Spelling
pub mod Word
pub mod Back
pub mod Shown
pub mod Examples
