pub mod Once
pub mod Places
pub mod Sound
pub mod Cases
