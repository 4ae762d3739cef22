pub mod Named
pub mod Names
pub mod Formed
pub mod Lines
pub mod Layout
pub mod Example
