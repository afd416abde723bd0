pub mod Text
pub mod Laws
pub mod Page
pub mod Std
