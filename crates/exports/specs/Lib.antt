-- What C is told.
--
--   Answers  an answer in numbers: document 01's number, and its values in a lent list
--   Calls    what each export returns and leaves behind
pub mod Answers
pub mod Calls
