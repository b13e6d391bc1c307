pub mod Must
pub mod Lexed
