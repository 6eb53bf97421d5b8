pub mod Ended
pub mod Marked
pub mod BegunRender
pub mod BegunCompute
