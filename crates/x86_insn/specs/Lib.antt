pub mod References
pub mod WellFormed
pub mod Codes
pub mod Fields
