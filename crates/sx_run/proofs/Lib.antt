pub mod Crews
pub mod Ending
mod NineWords
pub mod Serving
pub mod Visiting
