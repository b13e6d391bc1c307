pub mod Calls
pub mod FaultView
pub mod Run
