pub mod Arrays
pub mod Written
