pub mod Decimal
pub mod Steps
pub mod Runs
pub mod Rows
pub mod Found
