pub mod Keywords
pub mod Text
pub mod ErrorText
pub mod Blanks
pub mod Words
pub mod Numbers
pub mod Quotes
pub mod Lex
