-- Laws of the slots of both satellites.
--
--   Looking   a second is looked up by its float: halving over the floats finds what the table has
--   Fits      the fit of the second satellite leaves the slots of the first alone
pub mod Looking
pub mod Fits
