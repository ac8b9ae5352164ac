use Rattle.std.proofs.Common.{◌≡◌, drop}
use Rattle.sheet.specs.Rules.{different}
use Rattle.sheet.proofs.rules.are_different.Given as goal

abbrev pub invariant-loop-i : goal.invariant-loop-i
invariant-loop-i l = different l.members ≡ different (drop l.i l.members)
