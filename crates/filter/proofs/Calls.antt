-- The tests of the public calls. Assumes nothing.
use mathlib.Core.Path.{◌≡◌, sym, ◌∙◌}
use mathlib.Core.List.{List}
use Prim.Native.Nat.{ℕ, ◌+◌, ◌*◌, ◌%◌, ◌<◌, ◌≤◌}
use native.Mathlib.Omega.{arith}
use lib.Dec.{leb, eqb}
use lib.ListN.{length}
use borrow.Author.Tests.{eqb-true, leb-true}
use lib.Ieee.{Float}
use Rattle.slices.specs.Calls.{Verdict, accepted}
use Rattle.slices.specs.declared.refusal.Refusal.TheVariants.{Count, Length}
use Rattle.slices.proofs.Calls.{cond_passes}
use Rattle.filter.specs.Calls.{filter_refusal, band_refusal}

-- ---- what holds where no test fails

module _ (cs x : List Float) (places room : ℕ) (r : Verdict) (e : r ≡ filter_refusal cs x places room) (h : r ≡ accepted) where
  filter_fine : (0 < length x) × ((places ≡ length x) × (8 * length x ≤ room))
  unfolding filter_refusal
  filter_fine =
      let a = cond_passes (leb (length cs) 40) _ Count (sym e ∙ h) in
      let b = cond_passes (leb 1 (length x)) _ Count a.1 in
      let c = cond_passes (leb (length x) 100000) _ Count b.1 in
      let d = cond_passes (eqb (length cs % 5) 0) _ Length c.1 in
      let f = cond_passes (eqb places (length x)) _ Length d.1 in
      let g = cond_passes (leb (8 * length x) room) _ Length f.1 in
      (leb-true 1 (length x) b.0, (eqb-true places (length x) f.0, leb-true (8 * length x) room g.0))

  pub filter_some : 0 < length x
  filter_some = filter_fine.0

  pub filter_places : places ≡ length x
  filter_places = filter_fine.1.0

  pub filter_room : length x + length x + length x ≤ room
  filter_room = omega (arith, filter_fine.1.1)

module _ (ts x : List Float) (places room : ℕ) (r : Verdict) (e : r ≡ band_refusal ts x places room) (h : r ≡ accepted) where
  band_fine : (length x ≡ length ts) × ((places ≡ length ts) × (8 * length ts ≤ room))
  unfolding band_refusal
  band_fine =
      let a = cond_passes (leb (length ts) 100000) _ Count (sym e ∙ h) in
      let b = cond_passes (eqb (length x) (length ts)) _ Length a.1 in
      let c = cond_passes (eqb places (length ts)) _ Length b.1 in
      let d = cond_passes (leb (8 * length ts) room) _ Length c.1 in
      (eqb-true (length x) (length ts) b.0, (eqb-true places (length ts) c.0, leb-true (8 * length ts) room d.0))

  pub band_times : length ts ≡ length x
  band_times = sym band_fine.0

  pub band_places : places ≡ length x
  band_places = band_fine.1.0 ∙ sym band_fine.0

  pub band_room : length x + length x + length x ≤ room
  band_room = omega (arith, band_fine.0, band_fine.1.1)
