-- What C is told is what the calls answer.
--
--   AnswersTold  values stored in their places
--   Misplaced    what is refused where a list for the values has not its places
--   CallsTold    what each export returns and leaves behind
mod AnswersTold
mod Misplaced
mod CallsTold
