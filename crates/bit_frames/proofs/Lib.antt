pub mod Blocks
pub mod Counted
pub mod Frames
pub mod Passed
pub mod Served
