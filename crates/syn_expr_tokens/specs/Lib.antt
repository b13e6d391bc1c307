pub mod Signs
pub mod View
pub mod Reads
pub mod Refusal
pub mod Begins
pub mod Cut
