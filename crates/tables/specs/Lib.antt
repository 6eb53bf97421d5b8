pub mod Tabulate
pub mod Made
