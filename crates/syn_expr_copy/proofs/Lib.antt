pub mod Fields
pub mod Pats
