pub mod Blocks
pub mod Numbered
pub mod Parts
pub mod Runs
pub mod Sums
