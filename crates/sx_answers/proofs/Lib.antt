pub mod Places
pub mod Checks
pub mod Acts
pub mod Rest
pub mod Session
pub mod Rows
