-- Laws of the fitted orbits of one satellite.
--
--   Keeping     the states that are kept, one after the other, in lists filled up with zeros
--   Windows     the windows that are added, one after the other
--   Meaning     the states of the fitted windows are those that crate `windows` keeps in its slots
--   Answers     what `fitted_orbits` answers and leaves, in the cases of its code
--   Published   with the tables of `Legendre::new` the call is that over the published series
--   Numbers     the number of each answer, and when it has a value
pub mod Keeping
pub mod Windows
pub mod Meaning
pub mod Answers
pub mod Published
pub mod Numbers
