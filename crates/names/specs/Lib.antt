pub mod Gl
pub mod Order
pub mod Maps
pub mod Start
pub mod Table
pub mod Different
pub mod Ascii
