pub mod Rescaled
pub mod Calls
