-- Assumes nothing.
use Rattle.std.proofs.Common.{rules}
use Rattle.band_pass_program.proofs.ProgramText.{line_prints}
use Rattle.band_pass_program.proofs.put_line.Goals as goal

pub returns : goal.returns
returns c = search (rules, line_prints)
