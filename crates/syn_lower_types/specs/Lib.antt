pub mod View
pub mod Printed
pub mod ReadBack
pub mod Word
