use Rattle.std.proofs.Common.{◌≡◌, ◌+◌, ◌≤◌, ◌++◌, drop}
use Rattle.std.specs.List.{filter_map}
use Rattle.table.specs.Kept.{items}
use Rattle.table.specs.Views.{Answers}
use Rattle.table.proofs.owned.Slots.add_each.Given as goal

abbrev pub invariant-loop-one : goal.invariant-loop-one
invariant-loop-one g l =
    (l.self.count ≤ l.initial.self.count + l.one-index)
    × ((p : _) → Answers g.F.Fn p l.make → items l.self ++ filter_map p (drop l.one-index l.from) ≡ items l.initial.self ++ filter_map p l.from)
