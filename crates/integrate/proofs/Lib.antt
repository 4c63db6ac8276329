-- Laws of the integration of an orbit.
--
--   Places         what stands where in a list of numbers
--   RowsBySecond   rows by whole second: their keys, and the row found by its key
--   Front          the field at a time, written over that of another, and the gravity of the field held
--   ForceAndStep   the force, one step, and a run state by state
--   Calls          the public call in each of its cases
--   Published      with the tables of `Legendre::new` the call is that over the published series
pub mod Places
pub mod RowsBySecond
pub mod Front
pub mod ForceAndStep
pub mod Calls
pub mod Published
