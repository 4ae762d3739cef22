pub mod Lists
pub mod Made
pub mod Used
pub mod Counts
pub mod Follows
pub mod Blocks
pub mod RunLaw
