use Rattle.std.proofs.Common.{◌≡◌, ◌+◌, ◌*◌, ◌++◌, take, drop}
use Rattle.sheet.specs.Layout.{members_bytes}
use Rattle.sheet.proofs.parts.put_members.Given as goal

abbrev pub invariant-loop-i : goal.invariant-loop-i
invariant-loop-i l =
    take (8 + 5 * l.i) l.out ++ members_bytes (drop l.i l.members) ≡ take 8 l.initial.out ++ members_bytes l.members
