use Rattle.std.proofs.Common.{rules}
use Rattle.record_detrending.proofs.Reading.{reading_done}
use Rattle.record_detrending.proofs.read.Goals as goal

pub returns : goal.returns
returns c = search (rules, reading_done)
