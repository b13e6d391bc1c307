pub mod View
pub mod Printed
