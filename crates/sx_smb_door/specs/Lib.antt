pub mod Asking
pub mod Conversation
pub mod LineReaderView
pub mod Lines
