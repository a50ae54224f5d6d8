pub mod Bytes
pub mod Changes
pub mod Compared
pub mod Keyed
pub mod Places
pub mod Ranges
pub mod SetLeft
