-- What the tests of the public call say where none fails. Assumes nothing.
use Rattle.std.specs.Prelude.{◌≡◌, ℕ, ◌*◌, List, length, ℤ, Float}
use Rattle.std.proofs.Common.{eqb-true}
use Rattle.slices.specs.Calls.{accepted}
use Rattle.slices.specs.declared.refusal.Refusal.TheVariants.{Count, Length}
use Rattle.slices.proofs.Calls.{cond_passes}
use Rattle.ascending_nodes.specs.Calls.{nodes_refusal}

pub fits : (ks : List ℤ) (st : List Float) (places : ℕ) → nodes_refusal ks st places ≡ accepted → (length st ≡ 6 * length ks) × (places ≡ length ks)
unfolding nodes_refusal
fits ks st places h =
    let counted = cond_passes _ _ Count h in
    let full = cond_passes _ _ Length counted.1 in
    (eqb-true (length st) (6 * length ks) full.0, eqb-true places (length ks) (cond_passes _ _ Length full.1).0)
