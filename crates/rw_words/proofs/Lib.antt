pub mod Bounds
pub mod WordLemmas
