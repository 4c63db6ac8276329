-- The detrended and the passed column of a sheet.
--
--   Filling      what comes out of the scratch, the zeros behind the first n entries, the guard
pub mod Filling
