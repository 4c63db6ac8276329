-- The horizon and the final count, which the code finds from the back.
--
--   FromTheBack  the last entry of a list, the largest node, the last epoch of a run, the final count
pub mod FromTheBack
