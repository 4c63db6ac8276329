pub mod Inputs
pub mod Lent
