pub mod Calls
pub mod Changes
pub mod Nodes
pub mod Parts
pub mod Samples
pub mod Tested
pub mod Walk
