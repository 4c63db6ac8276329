-- `integrate::kernel::fill`: cleared, prepared, and the field at t written over it, from what each call ensures, one after the other. Assumes nothing.
use Rattle.std.proofs.Common.{List, ap, ◌∙◌}
use lib.Ieee.{Float}
use Rattle.model.specs.Calls.{at_left}
use Rattle.legendre.specs.Prepared.{prepared}
use Rattle.inputs.specs.Lent.{model_of}
use Rattle.integrate.proofs.kernel.fill.Goals as goal

pub returns : goal.returns
returns c =
    let s = c.args in
    c.at.ensures ∙ ap (λ (l : List Float). at_left (model_of s.model) s.t l) (c.prepare.ensures ∙ ap (prepared s.model.degree) c.clear.ensures)
