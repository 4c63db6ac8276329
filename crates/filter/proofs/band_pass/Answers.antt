use Rattle.std.proofs.Common.{◌≡◌, ◌∙◌, ap, length, rules}
use Rattle.slices.proofs.SliceLoops.{copied_all}
use Rattle.filter.specs.Filter.{band_pass}
use Rattle.filter.proofs.Calls.{band_times, band_places, band_room}
use Rattle.filter.proofs.band_pass.Goals as goal

pub band_pass-requires : goal.band_pass-requires
band_pass-requires c =
    let long : length c.args.out.now ≡ length c.args.x.now = search (rules, band_places) in
    let same : c.copy.new.out ≡ c.args.x.now = c.copy.ensures ∙ copied_all c.args.x.now c.args.out.now long in
    rw same (search (rules, band_times), search (rules, band_room))

pub returns : goal.returns
returns c =
    let long : length c.args.out.now ≡ length c.args.x.now = search (rules, band_places) in
    let same : c.copy.new.out ≡ c.args.x.now = c.copy.ensures ∙ copied_all c.args.x.now c.args.out.now long in
    let worked : c.band_pass.new.x ≡ band_pass c.args.times.now c.args.x.now = c.band_pass.ensures ∙ ap (band_pass c.args.times.now) same in
    search rules
