-- What the proofs use.
--
--   ReadLines    headers, rows and lines, as the loops and calls give their premises
--   LongCounts   a count is judged however many digits it has
pub mod ReadLines
pub mod LongCounts
