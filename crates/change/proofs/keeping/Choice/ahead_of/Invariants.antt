use Rattle.std.proofs.Common.{◌≡◌, ◌+◌, ◌≤◌, drop}
use Rattle.rows.specs.Lists.{listed}
use Rattle.change.specs.Keeping.{joined_by}
use Rattle.change.proofs.keeping.Choice.ahead_of.Given as goal

abbrev pub invariant-loop-wanted : goal.invariant-loop-wanted
invariant-loop-wanted g l =
    (l.ahead.groups.count ≤ 72 + l.wanted-index)
    × (joined_by (λ w. g.P.Preference.before l.self.preference.now l.self.user.number w.number l.group.number) (drop l.wanted-index l.self.wanted.now) (listed l.ahead)
    ≡ joined_by (λ w. g.P.Preference.before l.self.preference.now l.self.user.number w.number l.group.number) l.self.wanted.now (listed l.self.others.now))
