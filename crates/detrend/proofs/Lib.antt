-- Laws that the functions' proofs cite, and what the definitions owe to the theory of final entries.
--
--   PartsInPlace    lists of which a part is put in place
--   DesignRows      the definitions of `specs/Revolution.antt`
--   RevolutionFit   the fit of one revolution in a work area
--   RevolutionWalk  the walk over the revolutions
--   SplitAtNodes    the removal is the function that splits the samples at the nodes
--   WorkArea        the kernel and the work area
--   Ranges          detrending by ranges, range after range
--   Consecutive     detrending by the revolutions of `revolutions` is the removal of each one's fit
--   Listing         the listing of revolutions in lent lists
--   Periods         the periods between nodes that are times are finite
pub mod PartsInPlace
pub mod DesignRows
pub mod RevolutionFit
pub mod RevolutionWalk
pub mod SplitAtNodes
pub mod WorkArea
pub mod Ranges
pub mod Consecutive
pub mod Listing
pub mod Periods
