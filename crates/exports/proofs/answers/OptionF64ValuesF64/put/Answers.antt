use Rattle.exports.proofs.AnswersTold.{time_set}
use Rattle.exports.proofs.answers.OptionF64ValuesF64.put.Goals as goal

pub returns : goal.returns
unfolding lib.Ieee.of_bits lib.Ieee.neg
returns c = time_set c.args.out.now c.args.self c.unwrap_or.result c.requires c.unwrap_or.ensures
