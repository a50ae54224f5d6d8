pub mod Records
pub mod Iter
pub mod Compared
pub mod Examples
pub mod Signed
