-- Laws of the model.
--
--   Times       cover, bracket and weight as the code walks them
--   Within      the bracket holds t, and the weight lies between 0 and 1
--   Append      appended fields change nothing before the old last field
--   Blend       the rows that the blend writes
--   Checks      the tests that come before the work, and what the calls answer
--   Stages      what crate `finality` takes of the model
--   Instances   document 01's starred instances
--   Numbers     the number of each answer, and when it has a value
pub mod Times
pub mod Within
pub mod Append
pub mod Blend
pub mod Checks
pub mod Stages
pub mod Instances
pub mod Numbers
