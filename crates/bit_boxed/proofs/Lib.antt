pub mod Boxes
pub mod Pulling
pub mod Leaving
pub mod Stepping
pub mod Copies
