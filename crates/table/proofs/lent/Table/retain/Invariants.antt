use Rattle.std.proofs.Common.{◌≡◌, ◌≤◌, length, drop}
use Rattle.std.proofs.lemmas.List.Filters.{FiltersInPlace}
use Rattle.table.specs.Views.{Answers}
use Rattle.table.proofs.lent.Table.retain.Given as goal

abbrev pub invariant-loop-i : goal.invariant-loop-i
invariant-loop-i g l =
    (l.kept_so_far ≤ l.i)
    × (length l.self.slots.now ≡ length l.initial.self.slots.now)
    × (drop l.kept_so_far l.self.slots.now ≡ drop l.kept_so_far l.initial.self.slots.now)
    × ((p : _) → Answers g.F.Fn p l.test → FiltersInPlace p l.initial.self.slots.now l.self.slots.now l.kept_so_far l.i)
    × (l.self.count.now ≡ l.initial.self.count.now)
    × (l.self.slots.ghost_name ≡ l.initial.self.slots.ghost_name)
    × (l.self.count.ghost_name ≡ l.initial.self.count.ghost_name)
