-- The definitions that the contracts cite.
pub mod Sections
pub mod Filter
pub mod Calls
