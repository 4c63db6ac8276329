-- `model::kernel::weight` meets its contract. Assumes nothing.
use Rattle.model.specs.Model.{weight}
use Rattle.model.proofs.Within.{weighed_out, weighed_last, weighed}
use Rattle.model.proofs.kernel.weight.Goals as goal

pub returns-then-times-j : goal.returns-then-times-j
returns-then-times-j c = weighed_out c.args.times.now c.args.t c.args.j c.if-times-j.true

pub returns-then-times-next : goal.returns-then-times-next
returns-then-times-next c =
    weighed_last c.args.times.now c.args.t c.args.j c.if-times-next.true

pub returns : goal.returns
unfolding weight
returns c =
    weighed c.args.times.now c.args.t c.args.j (λ i h. c.shared_slice_known-3-1.given i)
