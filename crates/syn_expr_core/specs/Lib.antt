pub mod Node
pub mod View
pub mod Taken
pub mod Guarded
pub mod Refused
pub mod Strays
