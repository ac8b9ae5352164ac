use Rattle.std.proofs.Common.{◌*◌, ◌≤◌, count_by, filter}
use Rattle.notice.specs.Outcomes.{awaits, stays}
use Rattle.notice.proofs.Passing.{Pass}
use Rattle.notice.proofs.outcomes.strike_rows.Given as goal

abbrev pub invariant-loop-row : goal.invariant-loop-row
invariant-loop-row l =
    (l.removed ≤ 24 * l.row-index)
    × Pass (λ radio. filter (stays l.serial)) (λ radio. count_by (awaits l.serial)) l.initial.rows l.rows l.row-index l.removed
