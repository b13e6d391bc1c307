pub mod Rests
pub mod Loops
pub mod Paths
