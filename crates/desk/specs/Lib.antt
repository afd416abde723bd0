pub mod Desk
pub mod Lines
pub mod Journals
pub mod Puts
pub mod Ends
pub mod Theorems
