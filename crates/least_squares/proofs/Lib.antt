-- Least squares by elimination with a chosen pivot.
--
--   MatrixLoops      matrices in lists, and one turn of each loop
--   Matrices         the elimination in a list of 240 numbers is that of the matrices
--   KernelShapes     the kernel: which shapes are solved, and what it answers
--   Pivot            the chosen pivot is the last of the largest
--   Calls          the public call in each of its cases
--   Instances      checked instances
pub mod MatrixLoops
pub mod Matrices
pub mod KernelShapes
pub mod Pivot
pub mod Calls
pub mod Instances
