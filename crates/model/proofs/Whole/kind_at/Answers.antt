-- `model::Whole::kind_at` meets its contract. Assumes nothing.
use Rattle.std.proofs.Common.{sym, le_of_eq}
use Rattle.model.proofs.Checks.{kind_is_at}
use Rattle.model.proofs.Times.{bracket_fields}
use Rattle.model.proofs.Whole.kind_at.Goals as goal

pub blend-requires : goal.blend-requires
blend-requires c =
    let m = c.args.self.room in
    rw c.requires.same_degree (
      m.static,
      bracket_fields c.args.self.model.field_times.now c.args.t c.bracket-j.result _ _ c.bracket-j.ensures m.count (le_of_eq (sym m.fields)),
      c.requires.room,
    )

pub returns : goal.returns
returns c = kind_is_at _ _ _ _ _ _ (rw c.requires.same_degree at c.blend.ensures) c.weight-w.ensures.is c.bracket-j.ensures
