-- Laws of one epoch.
--
--   Records   an epoch keeps its time
--   Kept      the observations as one list, the epochs that are kept of the first of them, and lists filled up
--   Making    one record made, or none, in a work slice that stays usable
pub mod Records
pub mod Kept
pub mod Making
