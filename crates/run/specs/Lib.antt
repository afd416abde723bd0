pub mod Codes
pub mod Step
pub mod Run
pub mod Kept
pub mod Joined
pub mod Single
