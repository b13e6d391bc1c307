pub mod Closed
pub mod Inner
pub mod Loops
pub mod Turns
