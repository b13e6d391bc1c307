pub mod Place
pub mod Report
