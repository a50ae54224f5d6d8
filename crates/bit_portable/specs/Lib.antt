pub mod Stored
pub mod Form
pub mod Portable
pub mod Keyed
pub mod Reading
pub mod Faults
pub mod Examples
