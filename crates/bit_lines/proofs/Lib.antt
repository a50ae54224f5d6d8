pub mod Fields
pub mod Going
pub mod Lines
pub mod Written
pub mod Hexadecimal
