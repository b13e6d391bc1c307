pub mod LexLaws
pub mod FirstBytes
pub mod Marks
pub mod Words
