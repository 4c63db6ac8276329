-- Assumes nothing.
use Rattle.std.proofs.Common.{arith}
use Rattle.sheet_program.proofs.ReadAndPrinted.{rows_turn, rows_done, rows_count}
use Rattle.sheet_program.proofs.put_rows.Goals as goal

pub loop-k-preserved : goal.loop-k-preserved
loop-k-preserved c = rows_turn _ _ _ _ _ _ _ _ _ _ c.loop-k-test.true c.put_row.ensures c.loop-k.invariant

pub returns : goal.returns
returns c = (
  rows_done _ _ _ _ _ _ _ _ _ c.loop-k-test.false c.loop-k.auto.k-end c.loop-k.invariant,
  rows_count _ _ (omega (arith, c.loop-k.auto.out, c.requires.2)) c.requires.1,
)
