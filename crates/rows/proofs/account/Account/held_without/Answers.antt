use Rattle.std.proofs.Common.{arith, rules}
use Rattle.rows.proofs.Radios.{visited_taken, visited_skipped, few_more, few_same}
use Rattle.rows.proofs.account.Account.held_without.Goals as goal
use Rattle.rows.proofs.account.Account.held_without.Goals.{then-not-is_left_out, else-not-is_left_out}

pub loop-k-preserved : goal.loop-k-preserved
loop-k-preserved c =
    elim c.if-not-is_left_out.branch [
      | then-not-is_left_out w ↦ rw w.found-is (omega arith, few_more c.args.left_out c.loop-k.k c.loop-k.found.groups.count _ (omega arith) (search rules) c.loop-k.invariant.1, visited_taken c.args.time _ c.args.self.now.rows c.loop-k.k c.row-item.result _ _ _ (omega arith) (search rules) w.gather.ensures.listed c.loop-k.invariant.2)
      | else-not-is_left_out w ↦ rw w.found-is (omega arith, few_same c.args.left_out c.loop-k.k _ c.loop-k.invariant.0, search (rules, visited_skipped))
    ]
