-- Lists of epoch records (document 01, module 5): what is read from each, what a call tests of it, and the list with other residuals (module 6).
-- Assumes nothing.
use Rattle.std.specs.Prelude.{Bool, ◌&&◌, List, [], ◌∷◌, map, Float}
use Rattle.std.specs.Float.Ieee.Scale.{finite}
use Rattle.std.specs.List.{list_all}
use Rattle.laws.specs.Checks.{is_time}
use Rattle.epoch_record.specs.declared.Epoch.{Epoch}

abbrev pub time : Epoch → Float
time e = e.t

abbrev pub residual : Epoch → Float
residual e = e.residual

abbrev pub times_of : List Epoch → List Float
times_of es = map time es

abbrev pub residuals_of : List Epoch → List Float
residuals_of es = map residual es

-- a time within its bounds, and every other number finite
unfoldable pub epoch_fits : Epoch → Bool
epoch_fits e = is_time e.t && (finite e.residual && (list_all finite e.terms && (list_all finite e.mid && list_all finite e.vel)))

-- the record with another residual
abbrev pub with_residual : Epoch → Float → Epoch
with_residual e v = record { t = e.t; residual = v; terms = e.terms; mid = e.mid; vel = e.vel }

-- each record with the residual that stands at its place; where there is none, the record as it is
unfoldable pub put_back : List Epoch → List Float → List Epoch
put_back [] vs = []
put_back (e ∷ es) [] = e ∷ es
put_back (e ∷ es) (v ∷ vs) = with_residual e v ∷ put_back es vs
