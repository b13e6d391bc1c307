mod Counts
mod Files
pub mod KindLaws
mod Lines
pub mod Parts
