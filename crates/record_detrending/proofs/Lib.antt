-- What the steps of the call do to records and scratch.
--
--   Refusals      what the tests of the call say
--   Settling      the work area: detrended values at its head, +0.0 behind; what the whole call leaves
--   Reading       times and residuals of the records, read into the work area one by one
--   PuttingBack   the residuals, put back into the records one by one
pub mod Refusals
pub mod Settling
pub mod Reading
pub mod PuttingBack
