pub mod Sized
pub mod Errors
pub mod Lists
