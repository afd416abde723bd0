pub mod Numbers
pub mod Spelled
pub mod Texts
