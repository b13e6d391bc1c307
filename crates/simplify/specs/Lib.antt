pub mod Simplified
