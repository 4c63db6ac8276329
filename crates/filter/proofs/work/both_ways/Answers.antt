-- `filter::work::both_ways`: padded, run, reversed, run again and reversed again, from what each call ensures, by one law. Assumes nothing.
use mathlib.Core.Path.{◌∙◌}
use Rattle.filter.specs.Sections.{sections_of}
use Rattle.filter.proofs.Turns.{both_law}
use Rattle.filter.proofs.work.both_ways.Goals as goal

pub returns : goal.returns
returns c =
    let s = c.args in
    let q = c.requires in
    let padded = c.pad_oddly in
    let forth = c.run_sections in
    let turned = c.reverse in
    let back = c.run_sections-2 in
    let again = c.reverse-2 in
    let part = c.copy in
    both_law (sections_of s.sections.now) s.x.now padded.new.y forth.new.x turned.new.a back.new.x again.new.a part.new.out s.p
    (again.auto.a ∙ back.auto.x ∙ turned.auto.a ∙ forth.auto.x ∙ padded.auto.y ∙ q.1)
    padded.ensures forth.ensures turned.ensures back.ensures again.ensures part.ensures
