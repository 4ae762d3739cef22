pub mod Walk
pub mod Few
pub mod Data
pub mod NoData
