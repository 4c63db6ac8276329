-- What the functions' proofs cite.
--
--   ReadAndPrinted   where the sections of the numbers read begin, lists copied from them, and what is printed
pub mod ReadAndPrinted
