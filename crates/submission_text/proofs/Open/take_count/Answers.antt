-- Assumes nothing.
use Rattle.std.proofs.Common.{rules, sym, ◌∙◌}
use Rattle.submission_text.proofs.ReadLines.{count_refused}
use Rattle.submission_text.proofs.Open.take_count.Goals as goal

pub returns-in_err-header_fault : goal.returns-in_err-header_fault
returns-in_err-header_fault c = count_refused _ _ _ _ _ (sym c.header_fault.ensures ∙ c.in_err-header_fault.was) (search rules)
