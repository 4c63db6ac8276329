pub mod Orbits
pub mod Calls
pub mod Work
