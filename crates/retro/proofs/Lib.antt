pub mod Pieces
pub mod Short
pub mod Leaders
pub mod Answers
