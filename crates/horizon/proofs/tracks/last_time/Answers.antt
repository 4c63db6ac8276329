use Rattle.std.proofs.Common.{◌∙◌}
use Rattle.horizon.proofs.FromTheBack.{last_time_law}
use Rattle.horizon.proofs.tracks.last_time.Goals as goal

pub returns : goal.returns
returns c = c.copied.ensures ∙ c.last.ensures.value ∙ last_time_law c.args.times.now
