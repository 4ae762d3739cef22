pub mod Rest
pub mod Symbols
pub mod Holding
pub mod Standing
