pub mod Inputs
pub mod Tools
pub mod Typed
