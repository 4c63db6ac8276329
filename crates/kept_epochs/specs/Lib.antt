pub mod KeptEpochs
pub mod Lent
