-- What the functions' proofs cite.
--
--   ProgramText   the program's text: which lines are refused, columns read, lines and the summary printed
pub mod ProgramText
