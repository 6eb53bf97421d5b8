pub mod Vertex
pub mod Prepare
pub mod Step
pub mod Sent
pub mod Sweep
pub mod Place
pub mod Places
pub mod Witness
