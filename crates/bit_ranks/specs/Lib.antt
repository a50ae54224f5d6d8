pub mod Fits
pub mod Ones
pub mod Ranks
pub mod Sums
