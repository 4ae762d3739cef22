pub mod Dispatch
pub mod Jumps
pub mod Tables
pub mod Seen
pub mod Known
pub mod Entries
