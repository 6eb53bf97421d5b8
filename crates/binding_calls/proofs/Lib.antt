pub mod GroupMoved
pub mod GroupPlans
pub mod ImmediateBytes
pub mod ImmediateData
pub mod ImmediateJudged
pub mod ImmediatePlanned
