-- What the proofs use, and what the definitions mean.
--
--   DigitLoops   digits, as the loops and tests give their premises
--   Meaning      printing and reading undo each other
--   Printing     printed pieces, as loops and calls give their premises
pub mod DigitLoops
pub mod Meaning
pub mod Printing
