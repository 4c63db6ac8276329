-- Module 3 of document 01: the time-variable gravity model.
--
--   Field    a gravity field as a list of numbers
--   Model    bracket, weight, blend, and the field at a time; covered times are `covers` of crate `finality`
--   Stages   what crate `finality` takes of the model: added fields with their times, combined, and the blend of two
--   Calls    what the calls answer and leave behind
pub mod Field
pub mod Model
pub mod Stages
pub mod Calls
