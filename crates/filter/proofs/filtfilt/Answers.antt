use Rattle.std.proofs.Common.{◌≡◌, ◌∙◌, ap, length, rules}
use Rattle.slices.proofs.SliceLoops.{copied_all}
use Rattle.filter.specs.Sections.{sections_of}
use Rattle.filter.specs.Filter.{filtfilt}
use Rattle.filter.proofs.Calls.{filter_some, filter_room, filter_places}
use Rattle.filter.proofs.filtfilt.Goals as goal

pub filtfilt-requires : goal.filtfilt-requires
filtfilt-requires c =
    let long : length c.args.out.now ≡ length c.args.x.now = search (rules, filter_places) in
    let same : c.copy.new.out ≡ c.args.x.now = c.copy.ensures ∙ copied_all c.args.x.now c.args.out.now long in
    rw same (search (rules, filter_some), search (rules, filter_room))

pub returns : goal.returns
returns c =
    let long : length c.args.out.now ≡ length c.args.x.now = search (rules, filter_places) in
    let same : c.copy.new.out ≡ c.args.x.now = c.copy.ensures ∙ copied_all c.args.x.now c.args.out.now long in
    let worked : c.filtfilt.new.x ≡ filtfilt (sections_of c.args.sections.now) c.args.pad c.args.x.now =
    c.filtfilt.ensures ∙ ap (filtfilt (sections_of c.args.sections.now) c.args.pad) same in
    search rules
