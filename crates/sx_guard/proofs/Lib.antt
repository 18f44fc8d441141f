pub mod Pairs
pub mod Places
pub mod Orders
pub mod Kept
pub mod Views
pub mod Parts
pub mod AllLocks
