pub mod Triples
pub mod Recorded
pub mod Found
pub mod BarrierPlans
pub mod CopyPlans
pub mod ResolvedPlans
