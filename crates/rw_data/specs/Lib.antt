pub mod FirstFault
pub mod FirstCells
pub mod Words
pub mod Pieces
pub mod Regions
pub mod Picture
