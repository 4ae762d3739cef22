pub mod Found
pub mod Words
pub mod Numbered
pub mod Lines
pub mod Shown
pub mod Outcome
