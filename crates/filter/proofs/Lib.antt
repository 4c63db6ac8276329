-- Laws of the filter that its proofs and other crates cite.
--
--   Turns       one turn of each loop, and each call of the work
--   Bands       the sections of a band, flat and as records, and the constants of the code
--   Calls       the tests of the public calls and of the kernel
--   Seam        lengths stay, and nothing before the end of a run depends on what follows it
--   Instances   document 01's starred instances
pub mod Turns
pub mod Bands
pub mod Calls
pub mod Seam
pub mod Instances
