pub mod Functions
pub mod Points
pub mod Filled
pub mod Notes
pub mod Found
