-- `fields::rescaled_rows`: before degree n the table holds the rescaled rows below n. Assumes nothing.
use Rattle.std.specs.Prelude.{◌≡◌, length, take}
use Rattle.laws.specs.Tables.{tri, rows}
use Rattle.fields.specs.Rescaled.{rescaled_at}
use Rattle.fields.proofs.rescaled_rows.Given as goal

abbrev pub invariant-loop-n : goal.invariant-loop-n
invariant-loop-n l = (length l.out ≡ length l.initial.out) × (take (tri l.n) l.out ≡ rows (rescaled_at l.start l.given.gm l.given.radius l.given.field.now) l.n)
