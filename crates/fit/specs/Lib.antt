pub mod Fit
pub mod Room
pub mod WorkLeaves
pub mod Calls
pub mod Handing
