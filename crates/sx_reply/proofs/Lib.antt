pub mod Gathering
pub mod Escaping
pub mod Pieces
pub mod Lengths
