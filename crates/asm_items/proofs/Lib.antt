pub mod Numbers
pub mod LaidByTests
pub mod Laid
pub mod CodeLines
