pub mod Echelon
pub mod Elimination
pub mod Making
pub mod Matrix
pub mod MatrixLeft
pub mod Rank
pub mod Reduction
pub mod Squares
