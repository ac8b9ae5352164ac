use Rattle.std.proofs.Common.{◌≡◌, ◌+◌, ◌*◌, ◌≤◌, [], map, drop, IfSome}
use Rattle.rows.specs.Holdings.{number_of, visited}
use Rattle.rows.specs.Lists.{listed}
use Rattle.rows.specs.Standings.{used}
use Rattle.rows.proofs.account.Account.held_without.Given as goal

abbrev pub invariant-loop-k : goal.invariant-loop-k
invariant-loop-k l =
    (l.found.groups.count ≤ 24 * l.k)
    × IfSome l.left_out (λ radio. radio.number ≤ l.k → l.found.groups.count + 24 ≤ 24 * l.k)
    × (visited l.time (number_of l.left_out) (l.k + 1) (drop l.k (map used l.self.rows)) (listed l.found)
    ≡ visited l.time (number_of l.left_out) 1 (map used l.self.rows) [])
