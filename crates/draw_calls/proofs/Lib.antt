pub mod Owns
pub mod DrawPlans
pub mod Numbers
pub mod Stepped
pub mod Index
pub mod Swapped
