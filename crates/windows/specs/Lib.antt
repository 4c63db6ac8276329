pub mod Stage
pub mod Slots
pub mod Windows
