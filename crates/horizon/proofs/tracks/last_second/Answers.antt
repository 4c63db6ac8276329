use Rattle.std.proofs.Common.{rules, ◌∙◌, sym, ap, option_map, Some, w64, SFits, to_z-of_z}
use Rattle.laws.specs.Times.{second_time}
use Rattle.horizon.proofs.FromTheBack.{last_end}
use Rattle.horizon.proofs.tracks.last_second.Goals as goal

pub returns-in_err-last : goal.returns-in_err-last
returns-in_err-last c = c.from_residual.ensures ∙ ap (option_map second_time) (sym c.in_err-last.was ∙ c.copied.ensures ∙ c.last.ensures.value) ∙ last_end second_time c.args.keys.now

pub returns : goal.returns
returns c =
    let found = ap (option_map second_time) (sym c.in_ok-last.was ∙ c.copied.ensures ∙ c.last.ensures.value) ∙ last_end second_time c.args.keys.now in
    let fits : SFits w64 c.in_ok-last.last = search rules in
    ap Some (c.nearest_i64_to_f64.ensures ∙ ap second_time (to_z-of_z fits)) ∙ found
