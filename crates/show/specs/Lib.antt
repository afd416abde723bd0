pub mod Adler
pub mod Shown
pub mod Cases
