pub mod Below
pub mod Strays
pub mod Spine
pub mod Fixup
pub mod Operator
