pub mod State
pub mod Guards
pub mod Spots
pub mod Refused
pub mod Changed
pub mod Ids
pub mod Named
pub mod Holding
