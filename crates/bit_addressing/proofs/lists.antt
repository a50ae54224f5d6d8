pub mod Sized
pub mod Put
pub mod Shown
pub mod Moved
pub mod Refilled
