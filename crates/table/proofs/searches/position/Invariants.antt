use Rattle.std.proofs.Common.{◌≡◌, drop}
use Rattle.std.specs.List.{position_from}
use Rattle.table.specs.Tables.{first_place}
use Rattle.table.specs.Views.{Answers}
use Rattle.table.proofs.searches.position.Given as goal

abbrev pub invariant-loop-place : goal.invariant-loop-place
invariant-loop-place g l =
    (p : _) → Answers g.F.Fn p l.test → first_place p l.initial.records ≡ position_from p l.place (drop l.place l.initial.records)
