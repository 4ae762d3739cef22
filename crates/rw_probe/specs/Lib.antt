pub mod Leaders
pub mod Collecting
pub mod Probes
pub mod Choosing
pub mod Counting
pub mod Forgetting
pub mod ProbedPrograms
pub mod ProbedRuns
