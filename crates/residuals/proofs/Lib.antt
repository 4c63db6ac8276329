-- Laws of the range-acceleration residuals.
--
--   Making        one observation tried over the lists
--   Answers       what `epoch` answers and leaves, in the cases of its code
--   Turns         one turn of the loop over the observations
--   ListAnswers   what `residuals` answers and leaves, in the cases of its code
--   Published     with the tables of `Legendre::new` both calls are those over the published series
--   Numbers       the number of each answer, and when it has a value
mod Making
mod Answers
mod Turns
mod ListAnswers
pub mod Published
pub mod Numbers
