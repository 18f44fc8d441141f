pub mod Asks
pub mod Answering
pub mod Ends
pub mod Farewells
pub mod SessionCalls
pub mod Sessions
pub mod Splits
pub mod Turns
