pub mod Compared
pub mod Named
