pub mod Indices
pub mod Closures
pub mod PatKinds
pub mod Operands
pub mod Owns
pub mod VerbatimLeaves
pub mod Wholes
pub mod Pats
