-- Assumes nothing.
use Rattle.std.proofs.Common.{rules}
use Rattle.band_pass_program.proofs.ProgramText.{lines_turn, lines_done}
use Rattle.band_pass_program.proofs.Samples.put_lines.Goals as goal

pub loop-i-preserved : goal.loop-i-preserved
loop-i-preserved c = search (rules, lines_turn)

pub returns : goal.returns
returns c = search (rules, lines_done)
