pub mod Backwards
pub mod Gaps
pub mod Read
