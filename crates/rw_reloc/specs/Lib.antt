pub mod Relr
pub mod Entries
pub mod Targets
pub mod Slots
pub mod Relocations
