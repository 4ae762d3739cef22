pub mod Runs
pub mod RunStands
pub mod Correspond
