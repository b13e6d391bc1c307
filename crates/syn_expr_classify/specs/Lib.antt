pub mod Right
pub mod Node
pub mod Frames
pub mod Framed
