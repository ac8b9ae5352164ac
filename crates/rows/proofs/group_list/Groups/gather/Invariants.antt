use Rattle.std.proofs.Common.{◌≡◌, ◌+◌, ◌≤◌, drop}
use Rattle.rows.specs.Holdings.{gathered}
use Rattle.rows.specs.Lists.{listed}
use Rattle.rows.proofs.group_list.Groups.gather.Given as goal

abbrev pub invariant-loop-entry : goal.invariant-loop-entry
invariant-loop-entry l =
    (l.self.groups.count ≤ l.initial.self.groups.count + l.entry-index)
    × (gathered l.time (drop l.entry-index l.entries) (listed l.self) ≡ gathered l.time l.entries (listed l.initial.self))
