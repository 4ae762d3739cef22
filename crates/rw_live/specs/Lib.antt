pub mod Weakened
pub mod Liveness
pub mod LiveSteps
pub mod NodePaths
pub mod NodeSets
pub mod Work
pub mod Nodes
pub mod Lives
