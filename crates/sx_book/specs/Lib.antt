pub mod History
pub mod Book
pub mod Passes
pub mod OneHistory
pub mod Reports
