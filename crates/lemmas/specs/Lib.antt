pub mod Bools
pub mod Ranges
pub mod Walks
pub mod Orders
pub mod Single
