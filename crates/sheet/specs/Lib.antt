-- The whole path.
--
--   Stages       the modules' own work as the stages of crate `finality`, for a degree, a static field and Legendre tables
--   Submission   a submission of crate `finality`, from the lists of a call
--   Calls        the call: which refusal, what is published, what is left behind
pub mod Stages
pub mod Submission
pub mod Calls
