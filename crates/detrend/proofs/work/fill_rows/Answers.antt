-- `detrend::work::fill_rows`: after i times the work area has their rows from `to` on and is unchanged elsewhere. Assumes nothing.
use mathlib.Core.Path.{refl}
use native.Mathlib.Omega.{arith}
use borrow.Author.Rules.{rules}
use Rattle.detrend.proofs.DesignRows.{rows_none, rows_turn}
use Rattle.laws.specs.Lists.{put_length}
use Rattle.detrend.proofs.work.fill_rows.Goals as goal

pub loop-i-init : goal.loop-i-init
loop-i-init c = (omega arith, refl, search rows_none)

pub loop-i-preserved : goal.loop-i-preserved
loop-i-preserved c = (omega arith, search (rules, put_length), search (rules, rows_turn))
