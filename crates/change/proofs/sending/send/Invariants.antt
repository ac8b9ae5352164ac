use Rattle.std.proofs.Common.{◌+◌, ◌≤◌, drop}
use Rattle.rows.specs.Standings.{standing}
use Rattle.change.specs.Requests.{requests_for}
use Rattle.change.proofs.Filling.{Filling}
use Rattle.change.proofs.sending.send.Given as goal

abbrev pub invariant-loop-one : goal.invariant-loop-one
invariant-loop-one l =
    (l.sent ≤ l.one-index)
    × Filling l.initial.out l.out l.sent
    (requests_for l.user.number l.time.seconds (standing l.account).rows (l.next + l.sent) (drop l.one-index l.moves))
    (requests_for l.user.number l.time.seconds (standing l.account).rows l.next l.moves)
