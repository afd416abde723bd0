pub mod Journal
pub mod Laws
pub mod Theorems
pub mod Single
