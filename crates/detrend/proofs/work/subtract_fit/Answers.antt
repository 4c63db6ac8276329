-- `detrend::work::subtract_fit`: the first i values are less their fit, the others unchanged. Assumes nothing.
use native.Mathlib.Omega.{arith}
use borrow.Author.Rules.{rules}
use Rattle.detrend.proofs.RevolutionFit.{less_turn, row_fitted, less_done}
use Rattle.detrend.proofs.work.subtract_fit.Goals as goal

pub loop-i-preserved : goal.loop-i-preserved
loop-i-preserved c = (omega arith, search rules, search (rules, less_turn, row_fitted))

pub returns : goal.returns
returns c = search (rules, less_done)
