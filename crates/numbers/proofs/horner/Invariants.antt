-- `numbers::horner` meets its contract. Assumes nothing.
use Rattle.std.proofs.Common.{◌≡◌, suc, ◌-◌, ◌/◌, ◌<◌, length}
use lib.Ieee.{neg}
use Rattle.numbers.specs.Numbers.{horner, horner_from, alternating, downward}
use Rattle.numbers.proofs.horner.Given as goal

-- what is still to come, from p on, gives the whole
abbrev pub invariant-loop-i : goal.invariant-loop-i
invariant-loop-i l =
    (l.i < length l.table) × (horner_from l.z l.p (alternating (neg l.s) (downward l.table l.step (l.i - l.step) (l.i / l.step))) ≡ horner l.z (alternating l.sign (downward l.table l.step l.first (suc (l.first / l.step)))))

abbrev pub decreases-loop-i : goal.decreases-loop-i
decreases-loop-i l = l.i
