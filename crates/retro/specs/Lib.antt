pub mod FaultText
pub mod Words
pub mod Blocks
pub mod Asked
pub mod Call
pub mod Listing
pub mod Failure
pub mod Ending
