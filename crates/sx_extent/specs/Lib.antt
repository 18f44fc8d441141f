pub mod Ranges
pub mod View
pub mod Granules
