-- Laws of the fit of an orbit to observed positions.
--
--   Flights     a run by the kernel, in the form that a fit uses, and the guard of a fit
--   Rows        what a row reads stays while its result is stored, and one row more
--   Notes       the observations in scratch
--   Columns     the design: what a row reads of a run, one column, the columns so far, and misfits beside them
--   Steps       the steps of the observations: every fifth, within the arc, and known again from their floats
--   Rounds      a round: misfits and design as lists, and the parameters after it
--   WholeFit    the last run and the whole fit
--   Locality    a fit reads its model and its states at the arc's own times only
--   Calls       the public call in each of its cases
--   Published   with the tables of `Legendre::new` the call is that over the published series
pub mod Flights
pub mod Rows
pub mod Notes
pub mod Columns
pub mod Steps
pub mod Rounds
pub mod WholeFit
pub mod Locality
pub mod Calls
pub mod Published
