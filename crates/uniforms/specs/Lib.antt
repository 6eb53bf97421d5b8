pub mod Uniforms
pub mod Kind
pub mod Told
pub mod Since
pub mod Claim
pub mod Rust
pub mod Rows
