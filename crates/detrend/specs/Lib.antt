pub mod Fit
pub mod Revolutions
pub mod Ranges
pub mod Work
pub mod Calls
