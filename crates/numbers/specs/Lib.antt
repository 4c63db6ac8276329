pub mod Numbers
pub mod Constants
pub mod Seconds
