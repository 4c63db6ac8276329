pub mod Slices
pub mod Calls
pub mod Answers
