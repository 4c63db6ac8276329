pub mod Elimination
pub mod LeastSquares
pub mod Flat
pub mod Kernel
pub mod Calls
