pub mod LookUp
