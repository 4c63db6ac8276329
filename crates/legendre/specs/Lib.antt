pub mod Legendre
pub mod Arrays
pub mod Rows
pub mod Sums
pub mod Field
pub mod Prepared
pub mod Tables
