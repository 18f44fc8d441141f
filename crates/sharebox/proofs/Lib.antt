pub mod Closed
pub mod Connected
pub mod Own
pub mod SessionWords
