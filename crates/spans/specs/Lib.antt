pub mod Span
pub mod Place
pub mod Rebound
pub mod Exact
pub mod Answer
pub mod Drawn
pub mod Witness
