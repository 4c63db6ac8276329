-- What the four steps leave, by the laws of the work area. Assumes nothing.
use Rattle.record_detrending.proofs.Settling.{remove_leaves}
use Rattle.record_detrending.proofs.remove_in.Goals as goal

pub returns : goal.returns
returns c =
    remove_leaves c.args.epochs.now c.args.nodes.now c.args.scratch.now c.requires c.read.new.work c.settle-answer.new.work c.clear.new.a c.put_back.new.epochs c.settle-answer.result
    c.read.ensures c.settle-answer.ensures.0 c.settle-answer.ensures.1 c.put_back.ensures c.clear.ensures
