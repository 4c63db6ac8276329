-- The public calls on fields.
--
--   Refusals      what holds where nothing is refused
--   Coefficients  a coefficient rescaled by the factor of its degree
--   Answers       what the calls leave behind
--   ScratchCalls  the calls that work in a prepared scratch slice
--   Instances     document 01's checked instances of the index
--   Numbers       the number of each answer, and when it has a value
mod Refusals
mod Coefficients
mod Answers
mod ScratchCalls
pub mod Instances
pub mod Numbers
