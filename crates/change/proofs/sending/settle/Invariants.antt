use Rattle.std.proofs.Common.{◌≡◌, ◌+◌, ◌≤◌, ◌++◌, drop}
use Rattle.rows.specs.Standings.{used}
use Rattle.change.specs.Requests.{settled}
use Rattle.change.proofs.sending.settle.Given as goal

abbrev pub invariant-loop-one : goal.invariant-loop-one
invariant-loop-one l =
    (l.row.entries.count ≡ l.one-index)
    × (l.serial ≤ l.next + l.one-index)
    × (used l.row ++ settled l.serial (drop l.one-index l.moves) ≡ settled l.next l.moves)
