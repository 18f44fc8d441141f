pub mod Words
pub mod Visits
pub mod Doors
pub mod Crews
pub mod Serving
