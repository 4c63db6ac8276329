-- Detrending of a list of epoch records.
--
--   Records   the scan of the records, and what the steps do to records and scratch
--   Calls     the call: which refusal, what is handed out, what is left behind
pub mod Records
pub mod Calls
