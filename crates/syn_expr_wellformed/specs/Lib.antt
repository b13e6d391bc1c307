pub mod Alone
pub mod Slots
pub mod Well
pub mod Walk
pub mod Whole
