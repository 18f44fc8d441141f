pub mod Begins
pub mod Passed
