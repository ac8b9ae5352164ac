use Rattle.std.proofs.Common.{◌*◌, ◌≤◌, map}
use Rattle.mcptt.specs.Ranges.{has_radio}
use Rattle.notice.specs.Notices.{heard, notified, turned_in}
use Rattle.notice.proofs.Passing.{Pass}
use Rattle.notice.proofs.word.Word.tell_rows.Given as goal

abbrev pub invariant-loop-k : goal.invariant-loop-k
invariant-loop-k l =
    (l.turned ≤ 24 * l.k)
    × Pass (λ radio. map (notified l.time.seconds (heard l.self) (has_radio l.self.radios.bits radio)))
    (λ radio. turned_in l.time.seconds (heard l.self) (has_radio l.self.radios.bits radio)) l.initial.rows l.rows l.k l.turned
