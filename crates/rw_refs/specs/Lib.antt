pub mod Stubs
pub mod References
pub mod CodeReferences
pub mod DataTargets
