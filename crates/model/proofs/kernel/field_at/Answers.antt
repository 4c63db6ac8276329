-- `model::kernel::field_at` meets its contract. Assumes nothing.
use Rattle.model.proofs.Times.{bracket_fields}
use Rattle.model.proofs.Blend.{field_is}
use borrow.Author.Rules.{rules}
use Rattle.model.proofs.kernel.field_at.Goals as goal

pub blend_both-requires : goal.blend_both-requires
blend_both-requires c = (
  c.requires.degree,
  c.requires.static,
  bracket_fields c.args.model.field_times.now c.args.t c.bracket-j.result _ _ c.bracket-j.ensures c.requires.count c.requires.fields,
  c.requires.room,
)

pub returns : goal.returns
returns c = search (rules, field_is)
