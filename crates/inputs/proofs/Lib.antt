-- Laws of the tests of lent lists.
--
--   Passed   what the tests say where they pass
pub mod Passed
