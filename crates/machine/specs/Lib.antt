pub mod Each
pub mod View
pub mod Machine
pub mod Found
