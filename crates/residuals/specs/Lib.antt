-- Module 5 of document 01: range-acceleration residuals.
--
--   Inputs   what the calls are lent, and an epoch that is kept
--   Work     what the code hands on between its parts
--   Calls    what the calls refuse, answer and leave behind
--   Filling  what the loop over the observations has done so far
pub mod Inputs
pub mod Work
pub mod Calls
pub mod Filling
