-- Laws of slices.
--
--   Calls        what a public call leaves behind, in the cases of its code
--   SliceLoops   what a copy gives
--   Sorted       what the library's test of neighbours says of a rising list
--   Search       what the library's search by halves finds in a rising list
pub mod Calls
pub mod SliceLoops
pub mod Sorted
mod Search
