pub mod Sets
pub mod Nodes
pub mod Lists
pub mod Spines
pub mod Classes
