-- `slots::search`: the rows in front of the partition point lie below the key, and only the row there can have it. Assumes nothing.
use Rattle.std.proofs.Common.{[], sym, subst, arith, rules}
use Rattle.std.specs.Prelude.{Option}
use Rattle.integrate.specs.declared.kernel.State.{State}
use Rattle.std.proofs.lemmas.Fn.{always_returns_same}
use Rattle.slots.specs.LookUp.{Searched}
use Rattle.slots.proofs.Looking.{sooner, parted, past_all, past_some, met}
use Rattle.slots.proofs.search.Goals as goal

pub returns-in_err-row : goal.returns-in_err-row
returns-in_err-row c =
    let a = c.args in
    subst (λ (r : Option State). Searched a.s.now a.at a.n a.second r) (sym c.from_residual.ensures) (
    past_all _ _ _ _ _ _ (parted a.s.now a.at a.n _ _ a.second c.as_chunks.result.0.now c.partition_point-place.result (omega arith) (omega arith) c.as_chunks.ensures.front_len c.as_chunks.ensures.front
    c.partition_point-place.ensures.bound (c.partition_point-place.ensures.partitioned (sooner a.second) (always_returns_same _ _ _ (λ a r f k. search rules)))) (search rules))

pub returns-then-second-row : goal.returns-then-second-row
returns-then-second-row c =
    let a = c.args in
    past_some _ _ _ _ _ _ (parted a.s.now a.at a.n _ _ a.second c.as_chunks.result.0.now c.partition_point-place.result (omega arith) (omega arith) c.as_chunks.ensures.front_len c.as_chunks.ensures.front
    c.partition_point-place.ensures.bound (c.partition_point-place.ensures.partitioned (sooner a.second) (always_returns_same _ _ _ (λ a r f k. search rules))))
    (search rules) [] (search rules)

pub returns : goal.returns
returns c =
    let a = c.args in
    met _ _ _ _ _ _ (parted a.s.now a.at a.n _ _ a.second c.as_chunks.result.0.now c.partition_point-place.result (omega arith) (omega arith) c.as_chunks.ensures.front_len c.as_chunks.ensures.front
    c.partition_point-place.ensures.bound (c.partition_point-place.ensures.partitioned (sooner a.second) (always_returns_same _ _ _ (λ a r f k. search rules))))
    (search rules) [] (search rules) c.state_in.result (search rules)
