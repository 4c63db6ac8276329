-- The one theorem over document 01's starred instances.
--
--   Starred   each instance of the list holds, computed from the definitions
mod Starred
