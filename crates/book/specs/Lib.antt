pub mod Book
pub mod Premise
pub mod Run
pub mod Pages
pub mod Ran
pub mod FirstPass
