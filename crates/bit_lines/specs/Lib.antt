pub mod Line
pub mod Script
pub mod Words
pub mod Progress
pub mod Served
pub mod Examples
