pub mod SessionReply
