pub mod Places
pub mod Views
pub mod Rules
pub mod Moves
pub mod Seats
pub mod PlainRule
