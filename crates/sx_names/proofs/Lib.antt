pub mod Appended
pub mod Base64
pub mod FirstBroken
pub mod Fronts
pub mod Ordered
