pub mod Flat
pub mod Laws
pub mod Outer
pub mod Pats
