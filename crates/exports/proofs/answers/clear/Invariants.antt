-- `exports::answers::clear`: what is written, with what is to come, is as much as the list is long. Assumes nothing.
use Rattle.std.specs.Prelude.{◌≡◌, ◌++◌, ◌-◌, length, take, replicate}
use Rattle.exports.proofs.answers.clear.Given as goal

abbrev pub invariant-loop-place : goal.invariant-loop-place
invariant-loop-place g l =
    (length l.out ≡ length l.initial.out)
    × (take l.place-index l.out ++ replicate (length l.initial.out - l.place-index) l.nought ≡ replicate (length l.initial.out) l.nought)
