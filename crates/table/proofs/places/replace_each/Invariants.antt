use Rattle.std.proofs.Common.{◌≡◌, ◌++◌, map, take, drop}
use Rattle.table.specs.Views.{Answers}
use Rattle.table.proofs.places.replace_each.Given as goal

abbrev pub invariant-loop-one : goal.invariant-loop-one
invariant-loop-one g l =
    (p : _) → Answers g.F.Fn p l.make → l.slots ≡ map p (take l.one-index l.initial.slots) ++ drop l.one-index l.initial.slots
