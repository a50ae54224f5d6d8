pub mod SmallBits
