-- One epoch of module 5 of document 01.
--
--   Epoch   one epoch's record from states, accelerometer values and gravity
--   Kept    one epoch over rows by whole second, and the epochs that are kept
--   Work    what the code hands on between its parts
pub mod Epoch
pub mod Kept
pub mod Work
