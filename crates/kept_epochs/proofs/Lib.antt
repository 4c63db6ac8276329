-- Laws of the kept epochs of the whole path.
--
--   LookUps       the look-ups of one observation, and slots that stay
--   Turns         one turn of the loop over the observations, its beginning and its end
--   GatherGuard   whether the slices serve, and what is done where they do
mod LookUps
mod Turns
pub mod GatherGuard
