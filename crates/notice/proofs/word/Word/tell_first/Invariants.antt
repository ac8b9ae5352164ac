use Rattle.std.proofs.Common.{◌≡◌, ◌+◌, ◌≤◌, drop}
use Rattle.notice.specs.Notices.{heard, notified, turned_in}
use Rattle.notice.proofs.Changing.{Changed}
use Rattle.notice.proofs.word.Word.tell_first.Given as goal

abbrev pub invariant-loop-entry : goal.invariant-loop-entry
invariant-loop-entry l =
    (l.turned ≤ l.entry-index)
    × Changed (notified l.time.seconds (heard l.self) l.listed) l.initial.entry-items l.entry-items l.entry-index
    × (l.turned + turned_in l.time.seconds (heard l.self) l.listed (drop l.entry-index l.initial.entry-items)
    ≡ turned_in l.time.seconds (heard l.self) l.listed l.initial.entry-items)
