pub mod BitBox
pub mod IntoIter
pub mod Lends
pub mod LendsLeft
