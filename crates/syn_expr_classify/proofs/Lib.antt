pub mod Verbatim
pub mod Lasts
pub mod Labels
pub mod Rights
