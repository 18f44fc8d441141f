pub mod Answers
pub mod Fields
pub mod Lines
pub mod Opens
pub mod Printed
pub mod Reading
pub mod Spelled
pub mod Words
