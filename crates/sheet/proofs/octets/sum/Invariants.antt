use Rattle.std.proofs.Common.{◌≡◌, ◌*◌, ◌≤◌}
use Rattle.sheet.specs.Octets.{sum_of}
use Rattle.sheet.proofs.octets.sum.Given as goal

abbrev pub invariant-loop-i : goal.invariant-loop-i
invariant-loop-i l = (l.sum ≡ sum_of l.byte-items l.i) × (l.sum ≤ l.i * 129540)
