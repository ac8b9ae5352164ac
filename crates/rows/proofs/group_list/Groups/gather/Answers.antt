use Rattle.std.proofs.Common.{arith, rules}
use Rattle.rows.proofs.Radios.{gathered_more, gathered_all}
use Rattle.rows.proofs.group_list.Groups.gather.Goals as goal

pub loop-entry-preserved : goal.loop-entry-preserved
loop-entry-preserved c = (omega arith, search (rules, gathered_more))

pub returns : goal.returns
returns c = record { count = omega arith; listed = search (rules, gathered_all) }
