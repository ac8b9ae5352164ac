use Rattle.std.proofs.Common.{◌≡◌, ◌-◌, length, drop, refl, ap, arith}
use Rattle.sheet.specs.Decoded.{members_of}
use Rattle.std.proofs.lemmas.List.{append-nil, length-set, take_all}
use Rattle.sheet.proofs.Reading.{member_read}
use Rattle.sheet.proofs.kept.read_members.Goals as goal

pub loop-i-init : goal.loop-i-init
loop-i-init c = (ap (λ n. members_of n (drop 8 c.args.bytes.now)) (omega arith), refl)

pub loop-i-preserved : goal.loop-i-preserved
loop-i-preserved c = (
  member_read c.loop-i.places _ c.args.bytes.now c.loop-i.i _ c.member.result (omega arith) (omega arith) c.member.ensures c.loop-i.invariant.0,
  simp length-set (omega arith),
)

pub returns : goal.returns
returns c =
    let none : length c.args.places.now - c.loop-i.i ≡ 0 = omega arith in
    rw (take_all c.loop-i.i c.loop-i.places (omega arith), none, append-nil) at c.loop-i.invariant.0
