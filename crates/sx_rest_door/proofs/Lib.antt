pub mod Asks
pub mod Ends
pub mod Judgements
pub mod Replying
pub mod RestCalls
pub mod Turns
