pub mod Command
pub mod Conn
pub mod Limits
pub mod Opening
pub mod Serve
