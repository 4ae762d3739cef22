pub mod Cut
pub mod Hex
pub mod Mapped
pub mod Building
pub mod Symbols
pub mod Lengths
pub mod Separators
pub mod Bytes
pub mod Tables
pub mod Numbers
pub mod SymbolsRead
pub mod ArgumentsRead
pub mod InsnRead
pub mod ItemsRead
pub mod Unique
mod Examples
