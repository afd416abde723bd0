pub mod Layout
pub mod Book
pub mod Marks
pub mod Lens
pub mod Good
pub mod Same
pub mod Single
