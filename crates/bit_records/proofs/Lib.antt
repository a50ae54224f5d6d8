pub mod Numbers
pub mod Running
pub mod Complements
