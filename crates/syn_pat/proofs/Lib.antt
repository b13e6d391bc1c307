pub mod Appends
pub mod Prints
