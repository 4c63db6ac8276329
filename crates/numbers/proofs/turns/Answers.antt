-- `numbers::turns` meets its contract. Assumes nothing.
use Rattle.std.proofs.Common.{w64}
use mir.ValLaws.{to_z-of_z}
use Rattle.numbers.proofs.QuarterTurns.{near_halves}
use Rattle.numbers.proofs.turns.Goals as goal

pub truncating_f64_to_i64-h-requires : goal.truncating_f64_to_i64-h-requires
truncating_f64_to_i64-h-requires c = let h = near_halves c.args.x c.requires in record { lower_bound = h.ends_in_law.low_end; upper_bound = h.ends_in_law.high_end }

pub halved-requires : goal.halved-requires
halved-requires c = rw (to_z-of_z w64 c.truncating_f64_to_i64-h.result (record { sfits = c.truncating_f64_to_i64-h.type_inv }), c.truncating_f64_to_i64-h.ensures)
    (near_halves c.args.x c.requires).small

pub returns : goal.returns
returns c =
    rw (
      to_z-of_z w64 c.halved.result (record { sfits = c.halved.type_inv }),
      c.halved.ensures,
      to_z-of_z w64 c.truncating_f64_to_i64-h.result (record { sfits = c.truncating_f64_to_i64-h.type_inv }),
      c.truncating_f64_to_i64-h.ensures,
    ) (near_halves c.args.x c.requires).right
