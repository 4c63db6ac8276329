-- Past the end of the list a number is NaN, as the definition reads it. Assumes nothing.
use lib.Ieee.{of_bits}
use Rattle.std.proofs.Common.{rules}
use Rattle.sheet_program.proofs.ReadAndPrinted.{number_there, number_behind}
use Rattle.sheet_program.proofs.number_at.Goals as goal

pub returns-then-at-numbers : goal.returns-then-at-numbers
returns-then-at-numbers c = search (rules, number_there)

pub returns : goal.returns
unfolding of_bits
returns c = search (rules, number_behind)
