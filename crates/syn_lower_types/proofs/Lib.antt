pub mod Fitting
pub mod Prints
pub mod ReadingParts
