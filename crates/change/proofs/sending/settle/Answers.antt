use Rattle.std.proofs.Common.{arith, rules}
use Rattle.change.proofs.Settling.{settled_more, settled_all}
use Rattle.change.proofs.sending.settle.Goals as goal

pub loop-one-preserved : goal.loop-one-preserved
loop-one-preserved c = (omega arith, omega arith, search (rules, settled_more))

pub returns : goal.returns
returns c = search (rules, settled_all)
