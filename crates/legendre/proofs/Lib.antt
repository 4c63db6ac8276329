-- The series of Legendre functions, from rows in arrays to the published sums.
--
--   Index       places of triangular tables
--   Rows        a row of the recursion and of the derivative, by cases
--   Recur       the rows that the arrays hold are those of the definition
--   FilledArrays        an array filled from its first place on
--   Added       sums with one term more, and of equal numbers
--   Filling     tables and the diagonal filled from the front
--   Kernel      the guarded calls: a work slice prepared, a table, an evaluation
--   RowsOfTables       rows of arrays as rows of whole tables
--   Series      with the true tables an evaluation is the published series
--   Published   the tables that `tabulate` fills and a prepared work slice are the true ones
mod Index
mod Rows
mod Recur
mod FilledArrays
mod Added
pub mod Filling
mod Kernel
mod RowsOfTables
mod Series
pub mod Published
