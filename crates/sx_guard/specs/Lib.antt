pub mod Ordered
pub mod Parts
pub mod Handle
pub mod Access
pub mod Sharing
pub mod Locks
pub mod AllLocks
