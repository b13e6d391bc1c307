pub mod Prefixes
pub mod View
pub mod Reads
