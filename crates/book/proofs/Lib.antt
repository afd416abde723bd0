pub mod Fits
pub mod Chain
pub mod Open
