-- Read Demand first: demand 3 of the call. Then
--   AcceptedCalls  what an accepted call says of its lists, its counts and its outputs
--   Final          demand 3 of the submissions that two calls make, from crate `finality`
--   Accepted       what the tests of the call say where none fails;  Lawful: the modules' work obeys the laws of the stages
--   Grown          lists that begin with others give submissions that do
--   Orbits, Kept   fitted states and kept epochs, from the code's to the submission's;  Columns: the columns and the ends of the lists
--   WorkPublishes  what the parts of the work leave is what the call publishes
--   Answers        what the call answers and leaves, in the cases of its code
pub mod Grown
pub mod Lawful
pub mod Orbits
pub mod Accepted
pub mod Columns
pub mod Kept
pub mod Final
pub mod WorkPublishes
pub mod Answers
pub mod AcceptedCalls
pub mod Demand
pub mod Published
