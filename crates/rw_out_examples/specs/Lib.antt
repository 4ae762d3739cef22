pub mod Example
pub mod SlotExample
pub mod CopyExample
pub mod CopyHostedExample
pub mod PutsExample
pub mod DataExample
pub mod JumpExample
pub mod BlocksExample
