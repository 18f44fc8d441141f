pub mod Asking
pub mod Closing
pub mod Conversation
