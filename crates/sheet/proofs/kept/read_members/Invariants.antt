use Rattle.std.proofs.Common.{◌≡◌, ◌+◌, ◌-◌, ◌*◌, ◌++◌, length, take, drop}
use Rattle.sheet.specs.Decoded.{members_of}
use Rattle.sheet.proofs.kept.read_members.Given as goal

abbrev pub invariant-loop-i : goal.invariant-loop-i
invariant-loop-i l =
    let n = length l.initial.places in
    (take l.i l.places ++ members_of (n - l.i) (drop (8 + 5 * l.i) l.initial.bytes) ≡ members_of n (drop 8 l.initial.bytes))
    × (length l.places ≡ n)
