pub mod Framed
pub mod Placed
pub mod Printing
pub mod Prints
pub mod Shape
pub mod Spine
pub mod Taken
