pub mod Steps
pub mod Room
pub mod RowsBySecond
pub mod Force
pub mod Work
pub mod Calls
