pub mod State
pub mod Told
pub mod StateExamples
