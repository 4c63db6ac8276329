-- Assumes nothing.
use Rattle.std.proofs.Common.{arith}
use Rattle.hexadecimal.proofs.Printing.{count_few, count_prints}
use Rattle.hexadecimal.proofs.put_count.Goals as goal

pub returns-clause-text : goal.returns-clause-text
returns-clause-text c = λ h. count_prints _ _ _ _ _ h c.put_decimal.ensures

pub returns-clause-few : goal.returns-clause-few
returns-clause-few c = omega (arith, count_few c.put_decimal.ensures)
