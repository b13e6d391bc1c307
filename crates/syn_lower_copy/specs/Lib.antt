pub mod Copying
pub mod Within
