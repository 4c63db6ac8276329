-- Whether the slices serve, and what is done where they do. Assumes nothing.
use mathlib.Core.Path.{◌≡◌, refl, sym, ap, ◌∙◌, subst}
use mathlib.Core.Bool.{Bool, true, false, ◌&&◌, false≢true}
use mathlib.Core.List.{List}
use Prim.Native.Nat.{ℕ, ◌≤◌}
use native.Mathlib.Omega.{arith}
use lib.Dec.{leb, eqb}
use lib.IntN.{ℤ}
use lib.Ieee.{Float}
use lib.ListN.{length, replicate, length-replicate}
use Rattle.std.specs.Prelude.{Option, None, Some, unwrap_or}
use borrow.Author.Tests.{leb-true, eqb-true}
use Rattle.inputs.specs.Inputs.{front_size, Front}
use Rattle.laws.specs.Floats.{zero64}
use Rattle.std.specs.List.{list_all}
use Rattle.laws.specs.Checks.{is_time, rising_seconds}
use Rattle.laws.specs.Bools.{both_true}
use Rattle.epoch.specs.Work.{Opened}
use Rattle.kept_epochs.specs.KeptEpochs.{Given, gather_serves, Listed, kept_in, SoFar, Done, Gathered, Counted}
use Rattle.kept_epochs.proofs.LookUps.{stand_stays}
use Rattle.kept_epochs.proofs.Turns.{begins}

-- ---- the test

pub record Serving (N : ℕ) (p q : List ℤ) (ts : List Float) (v b o w n : ℕ) : Type 0 where
  pub degree : N ≤ 180
  pub room : front_size N ≤ n
  pub acc_c : rising_seconds p ≡ true
  pub acc_d : rising_seconds q ≡ true
  pub times : list_all is_time ts ≡ true
  pub values : v ≡ length ts
  pub good : b ≡ length ts
  pub outtimes : o ≡ length ts
  pub outraws : w ≡ length ts

pub serving : (N : ℕ) (p q : List ℤ) (ts : List Float) (values good outtimes outraws room : ℕ) → gather_serves N p q ts values good outtimes outraws room ≡ true
    → Serving N p q ts values good outtimes outraws room
unfolding gather_serves
serving N p q ts values good outtimes outraws room h =
    let m : ℕ = length ts in
    let whole = both_true ((leb N 180 && leb (front_size N) room) && (rising_seconds p && rising_seconds q)) (list_all is_time ts && ((eqb values m && eqb good m) && (eqb outtimes m && eqb outraws m))) h in
    let first = both_true (leb N 180 && leb (front_size N) room) (rising_seconds p && rising_seconds q) whole.0 in
    let front = both_true (leb N 180) (leb (front_size N) room) first.0 in
    let keys = both_true (rising_seconds p) (rising_seconds q) first.1 in
    let second = both_true (list_all is_time ts) ((eqb values m && eqb good m) && (eqb outtimes m && eqb outraws m)) whole.1 in
    let lengths = both_true (eqb values m && eqb good m) (eqb outtimes m && eqb outraws m) second.1 in
    let own = both_true (eqb values m) (eqb good m) lengths.0 in
    let outs = both_true (eqb outtimes m) (eqb outraws m) lengths.1 in
    record {
      degree = leb-true N 180 front.0;
      room = leb-true (front_size N) room front.1;
      acc_c = keys.0;
      acc_d = keys.1;
      times = second.0;
      values = eqb-true values m own.0;
      good = eqb-true good m own.1;
      outtimes = eqb-true outtimes m outs.0;
      outraws = eqb-true outraws m outs.1;
    }

-- ---- the work

module _ (g : Given) (ts rs s : List Float) (base : ℕ)
    (h : gather_serves g.model.fixed.degree g.accs.c.keys g.accs.d.keys g.observed.obs_times (length g.observed.values) (length g.observed.good) (length ts) (length rs)
    (length s) ≡ true)
    (eb : Front g.model.fixed.degree base) where
  serve : Serving g.model.fixed.degree g.accs.c.keys g.accs.d.keys g.observed.obs_times (length g.observed.values) (length g.observed.good) (length ts) (length rs) (length s)
  serve = serving g.model.fixed.degree g.accs.c.keys g.accs.d.keys g.observed.obs_times (length g.observed.values) (length g.observed.good) (length ts) (length rs) (length s)
      h

  base_is : base ≡ front_size g.model.fixed.degree
  base_is = eb.0 serve.degree

  pub started : (ts' rs' s' : List Float) → ts' ≡ replicate (length ts) zero64 → rs' ≡ replicate (length rs) zero64 → Opened g.model.fixed.degree base s s' → SoFar g base 0 s' ts' rs' s' 0
  started ts' rs' s' et er o =
      let room : base ≤ length s = omega (arith, base_is, serve.room) in
      begins g base ts' rs' s' (length ts) (length rs)
      (record {
        acc_c = serve.acc_c;
        acc_d = serve.acc_d;
        times = serve.times;
        values = serve.values;
        good = serve.good;
        outtimes = ap length et ∙ length-replicate (length ts) zero64 ∙ serve.outtimes;
        outraws = ap length er ∙ length-replicate (length rs) zero64 ∙ serve.outraws;
        small = eb.1;
        room = omega (arith, room, o.only.long);
        usable = o.usable base_is room g.model refl;
      })
      serve.outtimes serve.outraws et er

  pub finished : (s₁ s₂ ts' rs' : List Float) (r : ℕ) → Opened g.model.fixed.degree base s s₁ → Done g base s₁ s₂ ts' rs' r → Done g (front_size g.model.fixed.degree) s s₂ ts' rs' r
  finished s₁ s₂ ts' rs' r o d =
      subst (λ (b : ℕ). Done g b s s₂ ts' rs' r) base_is
      (record { long = d.long ∙ o.only.long; is = λ x y st. d.is x y (stand_stays g base s s₁ x y o.only st) })

-- ---- the call

module _ (g : Given) (ok serves : Bool) (e : ok ≡ serves) (ts rs s : List Float) where
  pub gathered : (ts' rs' s' : List Float) (r : ℕ) → ok ≡ true → Done g (front_size g.model.fixed.degree) s s' ts' rs' r → Gathered g serves ts rs s ts' rs' s' (Some r)
  gathered ts' rs' s' r h d = record {
    long = d.long;
    is = λ k. (r, refl, λ x y sc sd. d.is x y (record { of_c = sc; of_d = sd }));
    unfit = λ k. absurd (false≢true (sym k ∙ sym e ∙ h));
  }

  pub not_gathered : ok ≡ false → Gathered g serves ts rs s ts rs s None
  not_gathered h = record { long = refl; is = λ k. absurd (false≢true (sym h ∙ e ∙ k)); unfit = λ k. (refl, refl, refl, refl) }

-- a count, or 0
pub counted : (g : Given) (serves : Bool) (ts rs s ts' rs' s' : List Float) (r : Option ℕ) (n : ℕ) → Gathered g serves ts rs s ts' rs' s' r → n ≡ unwrap_or r 0 →
    Counted g serves ts rs s ts' rs' s' n
counted g serves ts rs s ts' rs' s' r n a e = record {
  long = a.long;
  is = λ k c d sc sd.
      let done = a.is k in
      let same : n ≡ done.0 = e ∙ ap (λ (o : Option ℕ). unwrap_or o 0) done.1 in
      subst (λ (m : ℕ). Listed (length g.observed.obs_times) (kept_in g c d) ts' rs' m) (sym same) (done.2 c d sc sd);
  unfit = λ k. (e ∙ ap (λ (o : Option ℕ). unwrap_or o 0) (a.unfit k).0, (a.unfit k).1, (a.unfit k).2, (a.unfit k).3);
}
