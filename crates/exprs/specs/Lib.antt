pub mod Answers
pub mod Kinds
pub mod Line
pub mod View
pub mod Words
