-- Assumes nothing.
use Rattle.std.proofs.Common.{rules, arith}
use Rattle.band_pass_program.proofs.ProgramText.{accepted_prints, refused_numbers}
use Rattle.band_pass_program.proofs.answer_numbers.Goals as goal

pub returns-in-Ok : goal.returns-in-Ok
returns-in-Ok c =
    let s = c.args.samples in
    let b = c.band_pass in
    accepted_prints s.times.now s.values.now c.args.passed.now c.args.scratch.now b.new.out b.new.scratch b.result (omega arith) (omega arith) (omega arith) (omega arith)
    b.ensures _ _ _ _ (search rules) c.put_passed.ensures

pub returns-in-Err : goal.returns-in-Err
returns-in-Err c =
    let s = c.args.samples in
    let b = c.band_pass in
    refused_numbers s.times.now s.values.now c.args.passed.now c.args.scratch.now b.new.out b.new.scratch b.result (omega arith) (omega arith) (omega arith) (omega arith)
    b.ensures _ _ _ c.from.result c.in-Err.refusal (search rules) (search rules) (c.put_refused.ensures.text (omega arith))
