pub mod Judged
pub mod Plans
pub mod Listed
pub mod Copied
pub mod Moved
pub mod Alone
pub mod Began
