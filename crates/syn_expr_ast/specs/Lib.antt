pub mod Attrs
pub mod Both
pub mod Node
pub mod Pats
pub mod Printed
pub mod View
pub mod FieldStands
pub mod Label
