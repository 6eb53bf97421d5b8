pub mod Moved
pub mod EndPlans
pub mod Labels
pub mod Begun
pub mod RenderCommands
pub mod RenderRight
pub mod ComputeRight
