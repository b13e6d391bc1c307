pub mod Item
pub mod Stmt
pub mod Spells
pub mod Printed
pub mod Read
pub mod Laws
