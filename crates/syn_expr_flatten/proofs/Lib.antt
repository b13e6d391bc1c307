pub mod Arms
pub mod Braced
pub mod Calls
pub mod FlatFill
pub mod FlatWell
pub mod FormedParens
pub mod Verbatim
pub mod Children
pub mod Nodes
pub mod OuterParens
pub mod Pats
pub mod Puts
pub mod Both
pub mod Made
mod Matches
