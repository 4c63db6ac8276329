use Rattle.std.proofs.Common.{◌∙◌, ap, to_z-of_z}
use Rattle.slices.specs.Slices.{lookup}
use Rattle.slices.proofs.Search.{searched}
use Rattle.slices.proofs.find.Goals as goal

pub returns : goal.returns
returns c = λ e. c.ok.ensures.value ∙ searched _ _ _ c.binary_search.ensures.bound c.binary_search.ensures.position e ∙ ap (lookup c.args.keys.now) (to_z-of_z c.ranges.key)
